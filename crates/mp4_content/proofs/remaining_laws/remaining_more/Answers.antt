use Rattle.mp4_content.proofs.RemainingWords.{remaining_more}
use Rattle.mp4_content.proofs.remaining_laws.remaining_more.Goals as goal

pub returns : goal.returns
returns c = remaining_more
