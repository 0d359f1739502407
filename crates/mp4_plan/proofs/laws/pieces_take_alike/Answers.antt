use Rattle.mp4_plan.proofs.TakenTurns as lemmas
use Rattle.mp4_plan.proofs.laws.pieces_take_alike.Goals as goal

pub returns : goal.returns
returns c = lemmas.pieces_take_alike
