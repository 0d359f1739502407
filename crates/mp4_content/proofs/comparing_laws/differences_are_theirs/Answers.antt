use Rattle.mp4_content.proofs.ComparisonPlaces.{differences_are_theirs}
use Rattle.mp4_content.proofs.comparing_laws.differences_are_theirs.Goals as goal

pub returns : goal.returns
returns c = differences_are_theirs
