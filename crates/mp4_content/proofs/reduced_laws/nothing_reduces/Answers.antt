use Rattle.mp4_content.proofs.Reducing.{nothing_reduces}
use Rattle.mp4_content.proofs.reduced_laws.nothing_reduces.Goals as goal

pub returns : goal.returns
returns c = nothing_reduces
