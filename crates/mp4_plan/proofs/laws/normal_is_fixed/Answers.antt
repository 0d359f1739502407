use Rattle.mp4_plan.proofs.FromTwo.{fixed_from}
use Rattle.mp4_plan.proofs.NormalDenotes.{normal_denotes}
use Rattle.mp4_plan.proofs.laws.normal_is_fixed.Goals as goal

pub returns : goal.returns
returns c = fixed_from normal_denotes
