use Rattle.std.proofs.Common.{◌≡◌, ◌≤◌, take}
use Rattle.mp4_answers.specs.format.LastLine.{count_of_kind}
use Rattle.mp4_answers.proofs.text.tally.count_of_kind.Given as goal

-- those so far are counted
abbrev pub invariant-loop-difference : goal.invariant-loop-difference
invariant-loop-difference l = (l.count ≡ count_of_kind l.kind (take l.difference-index l.all)) × (l.count ≤ l.difference-index)
