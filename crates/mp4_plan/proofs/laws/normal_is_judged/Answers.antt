use Rattle.mp4_plan.proofs.Judged.{normal_judged}
use Rattle.mp4_plan.proofs.laws.normal_is_judged.Goals as goal

pub returns : goal.returns
returns c = normal_judged
