use Rattle.std.proofs.Common.{◌≡◌, ◌++◌, take}
use Rattle.mp4_answers.specs.format.SumLines.{escaped_name}
use Rattle.mp4_answers.proofs.text.sum_lines.push_escaped.Given as goal

-- those so far are added
abbrev pub invariant-loop-byte : goal.invariant-loop-byte
invariant-loop-byte l = l.text.items ≡ l.fn.text.items ++ escaped_name (take l.byte-index l.name)
