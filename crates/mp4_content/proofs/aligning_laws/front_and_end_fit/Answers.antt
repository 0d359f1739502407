use Rattle.mp4_content.proofs.AlignmentOne.{front_and_end_fit}
use Rattle.mp4_content.proofs.aligning_laws.front_and_end_fit.Goals as goal

pub returns : goal.returns
returns c = front_and_end_fit
