use Rattle.mp4_answers.proofs.Alone.{shows_valid}
use Rattle.mp4_answers.proofs.answer_laws.shown_is_valid.Goals as goal

pub returns : goal.returns
returns c = shows_valid
