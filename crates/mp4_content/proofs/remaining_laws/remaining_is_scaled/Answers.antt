use Rattle.mp4_content.proofs.RemainingScaled.{remaining_is_scaled}
use Rattle.mp4_content.proofs.remaining_laws.remaining_is_scaled.Goals as goal

pub returns : goal.returns
returns c = remaining_is_scaled
