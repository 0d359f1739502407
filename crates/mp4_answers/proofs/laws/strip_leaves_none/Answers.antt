use Rattle.mp4_answers.proofs.StripLeft.{strip_leaves_none}
use Rattle.mp4_answers.proofs.laws.strip_leaves_none.Goals as goal

pub returns : goal.returns
returns c = strip_leaves_none
