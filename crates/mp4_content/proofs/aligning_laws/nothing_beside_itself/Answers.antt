use Rattle.mp4_content.proofs.AlignmentOne.{nothing_beside_itself}
use Rattle.mp4_content.proofs.aligning_laws.nothing_beside_itself.Goals as goal

pub returns : goal.returns
returns c = nothing_beside_itself
