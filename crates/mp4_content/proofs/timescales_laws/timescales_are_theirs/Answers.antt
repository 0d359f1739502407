use Rattle.mp4_content.proofs.TimescalesFractions.{timescales_are_theirs}
use Rattle.mp4_content.proofs.timescales_laws.timescales_are_theirs.Goals as goal

pub returns : goal.returns
returns c = timescales_are_theirs
