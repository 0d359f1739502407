use Rattle.mp4_plan.proofs.ReducedNormal.{reduced_normal_is_exact}
use Rattle.mp4_plan.proofs.reduced_laws.reduced_normal_is_exact.Goals as goal

pub returns : goal.returns
returns c = reduced_normal_is_exact
