use Rattle.mp4_content.proofs.TimescalesExact.{scaled_is_exact}
use Rattle.mp4_content.proofs.timescales_laws.scaled_is_exact.Goals as goal

pub returns : goal.returns
returns c = scaled_is_exact
