use Rattle.std.proofs.Common.{◌≡◌, ◌++◌}
use Rattle.mp4_answers.specs.format.FieldTexts.{apart, numbers_of}
use Rattle.mp4_answers.proofs.text.field_lines.push_numbers.Given as goal

-- the numbers so far are added
abbrev pub invariant-loop-k : goal.invariant-loop-k
invariant-loop-k l = l.text.items ≡ l.fn.text.items ++ numbers_of (apart l.spot) l.k l.bytes
