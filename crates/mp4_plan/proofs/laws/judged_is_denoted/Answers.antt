use Rattle.mp4_present.proofs.JudgedTrees.{judged_denotes}
use Rattle.mp4_plan.proofs.Judged.{denoted_judged}
use Rattle.mp4_plan.proofs.laws.judged_is_denoted.Goals as goal

pub returns : goal.returns
returns c file p = (judged_denotes file p, denoted_judged file p)
