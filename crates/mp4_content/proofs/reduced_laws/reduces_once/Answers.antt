use Rattle.mp4_content.proofs.Reducing.{reduces_once}
use Rattle.mp4_content.proofs.reduced_laws.reduces_once.Goals as goal

pub returns : goal.returns
returns c = reduces_once
