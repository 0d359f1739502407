use Rattle.mp4_content.proofs.RemainingWords.{nothing_goes}
use Rattle.mp4_content.proofs.remaining_laws.nothing_goes.Goals as goal

pub returns : goal.returns
returns c = nothing_goes
