use Rattle.mp4_content.proofs.ComparisonComplete.{differences_are_all}
use Rattle.mp4_content.proofs.complete_laws.differences_are_all.Goals as goal

pub returns : goal.returns
returns c = differences_are_all
