use Rattle.mp4_content.proofs.Agreed.{reduce_is_exact}
use Rattle.mp4_content.proofs.reduced_laws.reduce_is_exact.Goals as goal

pub returns : goal.returns
returns c = reduce_is_exact
