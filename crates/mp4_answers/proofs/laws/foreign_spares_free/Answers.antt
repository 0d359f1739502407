use Rattle.mp4_answers.proofs.StripLeft.{foreign_spares_free}
use Rattle.mp4_answers.proofs.laws.foreign_spares_free.Goals as goal

pub returns : goal.returns
returns c = foreign_spares_free
