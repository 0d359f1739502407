use Rattle.mp4_content.proofs.TimescalesOrder.{scaled_twice_is_other}
use Rattle.mp4_content.proofs.timescales_laws.scaled_twice_is_other.Goals as goal

pub returns : goal.returns
returns c = scaled_twice_is_other
