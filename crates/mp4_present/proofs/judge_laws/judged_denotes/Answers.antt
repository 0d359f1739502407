use Rattle.mp4_present.proofs.JudgedTrees.{judged_denotes}
use Rattle.mp4_present.proofs.judge_laws.judged_denotes.Goals as goal

pub returns : goal.returns
returns c = judged_denotes
