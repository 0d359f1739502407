use Rattle.mp4_content.proofs.RemainingWords.{remaining_is_fixed}
use Rattle.mp4_content.proofs.remaining_laws.remaining_is_fixed.Goals as goal

pub returns : goal.returns
returns c = remaining_is_fixed
