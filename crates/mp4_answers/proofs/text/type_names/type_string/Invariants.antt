use Rattle.std.proofs.Common.{◌≡◌, take, string_bytes}
use Rattle.std.specs.List.{flat_map}
use Rattle.mp4_answers.specs.format.Texts.{hex_digits}
use Rattle.mp4_answers.proofs.text.type_names.type_string.Given as goal

-- the bytes so far are written
abbrev pub invariant-loop-byte : goal.invariant-loop-byte
invariant-loop-byte l = string_bytes l.text ≡ take l.byte-index l.kind

abbrev pub invariant-loop-byte-else-is_text : goal.invariant-loop-byte-else-is_text
invariant-loop-byte-else-is_text l = string_bytes l.text ≡ flat_map (hex_digits 2) (take l.byte-index l.kind)
