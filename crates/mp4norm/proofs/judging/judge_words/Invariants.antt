use Rattle.std.proofs.Common.{drop}
use Rattle.mp4norm.proofs.Judged.{GoesOn}
use Rattle.mp4norm.proofs.judging.judge_words.Given as goal

abbrev pub invariant-loop-input : goal.invariant-loop-input
invariant-loop-input g l = GoesOn g.J.Judge.finds_word l.words l.fn.judge (drop l.input-index l.words) l.judge l.worst
