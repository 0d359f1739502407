use Rattle.std.proofs.Common.{◌≡◌, ◌++◌, take, string_bytes}
use Rattle.mp4_answers.specs.format.Texts.{hex_text}
use Rattle.mp4_answers.proofs.text.box_json.push_bytes.Given as goal

-- the bytes so far are written
abbrev pub invariant-loop-byte : goal.invariant-loop-byte
invariant-loop-byte l = string_bytes l.text ≡ string_bytes l.fn.text ++ hex_text (take l.byte-index l.bytes)
