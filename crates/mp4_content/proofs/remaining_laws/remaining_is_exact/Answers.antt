use Rattle.mp4_content.proofs.RemainingWords.{remaining_is_exact}
use Rattle.mp4_content.proofs.remaining_laws.remaining_is_exact.Goals as goal

pub returns : goal.returns
returns c = remaining_is_exact
