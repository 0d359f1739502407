use Rattle.mp4_head.proofs.ReadAgain.{reads_again}
use Rattle.mp4_head.proofs.laws.written_head_is_read.Goals as goal

pub returns : goal.returns
returns c = reads_again
