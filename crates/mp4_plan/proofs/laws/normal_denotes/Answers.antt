use Rattle.mp4_plan.proofs.NormalDenotes.{normal_denotes}
use Rattle.mp4_plan.proofs.laws.normal_denotes.Goals as goal

pub returns : goal.returns
returns c = normal_denotes
