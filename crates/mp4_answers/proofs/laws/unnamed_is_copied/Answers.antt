use Rattle.mp4_answers.proofs.StripLaws.{unnamed_is_copied}
use Rattle.mp4_answers.proofs.laws.unnamed_is_copied.Goals as goal

pub returns : goal.returns
returns c = unnamed_is_copied
