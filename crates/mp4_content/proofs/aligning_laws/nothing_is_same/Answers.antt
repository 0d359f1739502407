use Rattle.mp4_content.proofs.AlignmentOne.{nothing_is_same}
use Rattle.mp4_content.proofs.aligning_laws.nothing_is_same.Goals as goal

pub returns : goal.returns
returns c = nothing_is_same
