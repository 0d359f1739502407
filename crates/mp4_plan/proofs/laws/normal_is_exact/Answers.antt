use Rattle.mp4_plan.proofs.FromTwo.{exact_from}
use Rattle.mp4_plan.proofs.NormalDenotes.{normal_denotes}
use Rattle.mp4_plan.proofs.laws.normal_is_exact.Goals as goal

pub returns : goal.returns
returns c = exact_from normal_denotes
