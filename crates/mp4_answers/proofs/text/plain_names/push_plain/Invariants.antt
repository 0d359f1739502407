use Rattle.std.proofs.Common.{◌≡◌, ◌++◌, length}
use Rattle.mp4_answers.specs.format.SumLines.{plain_name}
use Rattle.mp4_answers.proofs.text.plain_names.push_plain.Given as goal

-- those so far are added, and those of what is left are to come
abbrev pub invariant-loop-first : goal.invariant-loop-first
invariant-loop-first l = l.fn.text.items ++ plain_name l.word ≡ l.text.items ++ plain_name l.left

abbrev pub decreases-loop-first : goal.decreases-loop-first
decreases-loop-first l = length l.left
