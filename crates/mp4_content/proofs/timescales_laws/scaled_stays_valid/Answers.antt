use Rattle.mp4_content.proofs.TimescalesValid.{scaled_stays_valid}
use Rattle.mp4_content.proofs.timescales_laws.scaled_stays_valid.Goals as goal

pub returns : goal.returns
returns c = scaled_stays_valid
