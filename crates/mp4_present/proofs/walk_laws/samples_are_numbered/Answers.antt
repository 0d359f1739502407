use Rattle.mp4_present.proofs.TrackNumbers.{samples_are_numbered}
use Rattle.mp4_present.proofs.walk_laws.samples_are_numbered.Goals as goal

pub returns : goal.returns
returns c = samples_are_numbered
