use Rattle.std.proofs.Common.{◌+◌, ◌≤◌, drop}
use Rattle.mp4norm.proofs.Judged.{SumsOn}
use Rattle.mp4norm.proofs.judging.check_listed.Given as goal

abbrev pub invariant-loop-file : goal.invariant-loop-file
invariant-loop-file g l =
    record {
      sums : SumsOn g.J.SumJudge.finds l.files l.fn.judge (drop l.file-index l.files) l.judge l.worst l.without l.other;
      all : l.other + l.without ≤ l.file-index;
    }
