use Rattle.mp4_answers.proofs.StripLaws.{strip_keeps_length}
use Rattle.mp4_answers.proofs.laws.strip_keeps_length.Goals as goal

pub returns : goal.returns
returns c = strip_keeps_length
