use Rattle.mp4_head.proofs.JudgedStands.{judged_stands}
use Rattle.mp4_head.proofs.laws.judged_head_fault_stands.Goals as goal

pub returns : goal.returns
returns c = judged_stands
