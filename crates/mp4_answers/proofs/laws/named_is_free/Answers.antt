use Rattle.mp4_answers.proofs.StripLaws.{named_is_free}
use Rattle.mp4_answers.proofs.laws.named_is_free.Goals as goal

pub returns : goal.returns
returns c = named_is_free
