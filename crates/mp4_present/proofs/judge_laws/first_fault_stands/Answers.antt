use Rattle.mp4_present.proofs.JudgedTrees.{judged_fault_stands}
use Rattle.mp4_present.proofs.judge_laws.first_fault_stands.Goals as goal

pub returns : goal.returns
returns c = judged_fault_stands
