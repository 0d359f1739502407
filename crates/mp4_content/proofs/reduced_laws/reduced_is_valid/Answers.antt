use Rattle.mp4_content.proofs.ReducedValid.{reduced_is_valid}
use Rattle.mp4_content.proofs.reduced_laws.reduced_is_valid.Goals as goal

pub returns : goal.returns
returns c = reduced_is_valid
