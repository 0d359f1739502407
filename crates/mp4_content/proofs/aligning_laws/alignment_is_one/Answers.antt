use Rattle.mp4_content.proofs.AlignmentOne.{alignment_is_one}
use Rattle.mp4_content.proofs.aligning_laws.alignment_is_one.Goals as goal

pub returns : goal.returns
returns c = alignment_is_one
