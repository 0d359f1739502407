use Rattle.mp4_content.proofs.RemainingValid.{remaining_stays_valid}
use Rattle.mp4_content.proofs.remaining_laws.remaining_stays_valid.Goals as goal

pub returns : goal.returns
returns c = remaining_stays_valid
