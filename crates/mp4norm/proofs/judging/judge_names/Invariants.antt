use Rattle.std.proofs.Common.{length}
use Rattle.mp4norm.specs.format.Lists.{ended_names}
use Rattle.mp4norm.proofs.Judged.{GoesOn}
use Rattle.mp4norm.proofs.judging.judge_names.Given as goal

abbrev pub invariant-loop-left : goal.invariant-loop-left
invariant-loop-left g l = GoesOn g.J.Judge.finds_name (ended_names l.fn.list) l.fn.judge (ended_names l.left) l.judge l.worst

abbrev pub decreases-loop-left : goal.decreases-loop-left
decreases-loop-left g l = length l.left
