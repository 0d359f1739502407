use Rattle.mp4_answers.proofs.StripDenotes.{copy_denotes_the_same}
use Rattle.mp4_answers.proofs.laws.copy_denotes_the_same.Goals as goal

pub returns : goal.returns
returns c = copy_denotes_the_same
