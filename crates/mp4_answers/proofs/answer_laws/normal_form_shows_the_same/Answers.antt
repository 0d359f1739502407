use Rattle.mp4_answers.proofs.SameAnswers.{normal_form_shows_the_same}
use Rattle.mp4_answers.proofs.answer_laws.normal_form_shows_the_same.Goals as goal

pub returns : goal.returns
returns c = normal_form_shows_the_same
