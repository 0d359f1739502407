use Rattle.std.proofs.Common.{◌≡◌, ◌++◌, take}
use Rattle.std.specs.List.{flat_map}
use Rattle.mp4_answers.specs.format.Texts.{hex_digits}
use Rattle.mp4_answers.proofs.text.line.Line.push_type.Given as goal

-- the bytes so far are written
abbrev pub invariant-loop-byte : goal.invariant-loop-byte
invariant-loop-byte l = l.self ≡ l.fn.self ++ flat_map (hex_digits 2) (take l.byte-index l.byte-items)
