use Rattle.mp4_content.proofs.TimescalesValid.{scaled_is_valid}
use Rattle.mp4_content.proofs.timescales_laws.scaled_is_valid.Goals as goal

pub returns : goal.returns
returns c = scaled_is_valid
