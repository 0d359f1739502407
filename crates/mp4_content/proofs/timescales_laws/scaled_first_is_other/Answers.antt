use Rattle.mp4_content.proofs.TimescalesOrder.{scaled_first_is_other}
use Rattle.mp4_content.proofs.timescales_laws.scaled_first_is_other.Goals as goal

pub returns : goal.returns
returns c = scaled_first_is_other
