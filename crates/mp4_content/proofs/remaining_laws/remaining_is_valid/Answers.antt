use Rattle.mp4_content.proofs.RemainingValid.{remaining_is_valid}
use Rattle.mp4_content.proofs.remaining_laws.remaining_is_valid.Goals as goal

pub returns : goal.returns
returns c = remaining_is_valid
