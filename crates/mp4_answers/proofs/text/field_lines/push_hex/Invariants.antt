use Rattle.std.proofs.Common.{◌≡◌, ◌++◌, take}
use Rattle.mp4_answers.specs.format.Texts.{hex_text}
use Rattle.mp4_answers.proofs.text.field_lines.push_hex.Given as goal

-- the bytes so far are added
abbrev pub invariant-loop-byte : goal.invariant-loop-byte
invariant-loop-byte l = l.text.items ≡ l.fn.text.items ++ hex_text (take l.byte-index l.bytes)
