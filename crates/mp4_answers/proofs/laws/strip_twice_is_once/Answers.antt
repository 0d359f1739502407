use Rattle.mp4_answers.proofs.StripLeft.{strip_twice_is_once}
use Rattle.mp4_answers.proofs.laws.strip_twice_is_once.Goals as goal

pub returns : goal.returns
returns c = strip_twice_is_once
