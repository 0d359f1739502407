use Rattle.mp4_content.proofs.RemainingWords.{same_remains_without_more}
use Rattle.mp4_content.proofs.remaining_laws.same_remains_without_more.Goals as goal

pub returns : goal.returns
returns c = same_remains_without_more
