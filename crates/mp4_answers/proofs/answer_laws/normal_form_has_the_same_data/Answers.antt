use Rattle.mp4_answers.proofs.SameAnswers.{normal_form_has_the_same_data}
use Rattle.mp4_answers.proofs.answer_laws.normal_form_has_the_same_data.Goals as goal

pub returns : goal.returns
returns c = normal_form_has_the_same_data
