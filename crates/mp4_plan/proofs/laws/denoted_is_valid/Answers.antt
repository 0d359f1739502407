use Rattle.mp4_present.proofs.DenotedValid.{denoted_is_valid}
use Rattle.mp4_plan.proofs.laws.denoted_is_valid.Goals as goal

pub returns : goal.returns
returns c = denoted_is_valid
