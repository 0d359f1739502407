use Rattle.mp4_plan.proofs.TurnSteps as lemmas
use Rattle.mp4_plan.proofs.laws.turns_take_all.Goals as goal

pub returns : goal.returns
returns c = lemmas.turns_take_all
