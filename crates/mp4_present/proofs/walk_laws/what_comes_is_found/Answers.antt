use Rattle.mp4_present.proofs.ComingFound.{comes_is_coming}
use Rattle.mp4_present.proofs.walk_laws.what_comes_is_found.Goals as goal

pub returns : goal.returns
returns c = comes_is_coming
