use Rattle.mp4_plan.proofs.ReducedNormal.{reduced_normal_is_fixed}
use Rattle.mp4_plan.proofs.reduced_laws.reduced_normal_is_fixed.Goals as goal

pub returns : goal.returns
returns c = reduced_normal_is_fixed
