use Rattle.mp4_plan.proofs.SpelledPiece as lemmas
use Rattle.mp4_plan.proofs.laws.piece_is_spelled.Goals as goal

pub returns : goal.returns
returns c = lemmas.piece_is_spelled
