use Rattle.mp4_content.proofs.TimescalesWords.{scaled_is_fixed}
use Rattle.mp4_content.proofs.timescales_laws.scaled_is_fixed.Goals as goal

pub returns : goal.returns
returns c = scaled_is_fixed
