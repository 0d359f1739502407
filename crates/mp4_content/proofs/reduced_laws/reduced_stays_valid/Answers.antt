use Rattle.mp4_content.proofs.ReducedValid.{reduced_stays_valid}
use Rattle.mp4_content.proofs.reduced_laws.reduced_stays_valid.Goals as goal

pub returns : goal.returns
returns c = reduced_stays_valid
