use Rattle.mp4_plan.proofs.Judged.{first_fault_refuses}
use Rattle.mp4_plan.proofs.laws.first_fault_refuses.Goals as goal

pub returns : goal.returns
returns c = first_fault_refuses
