use Rattle.mp4_content.proofs.Words.{each_has}
use Rattle.mp4_content.proofs.reduced_laws.each_has.Goals as goal

pub returns : goal.returns
returns c = each_has
