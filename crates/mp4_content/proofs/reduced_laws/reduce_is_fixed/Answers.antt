use Rattle.mp4_content.proofs.Reducing.{reduce_is_fixed}
use Rattle.mp4_content.proofs.reduced_laws.reduce_is_fixed.Goals as goal

pub returns : goal.returns
returns c = reduce_is_fixed
