use Rattle.mp4_content.proofs.Covering.{same_without_more}
use Rattle.mp4_content.proofs.covering_laws.same_without_more.Goals as goal

pub returns : goal.returns
returns c = same_without_more
