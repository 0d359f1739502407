use Rattle.mp4_answers.proofs.StripLaws.{halted_strips_nothing}
use Rattle.mp4_answers.proofs.laws.halted_strips_nothing.Goals as goal

pub returns : goal.returns
returns c = halted_strips_nothing
