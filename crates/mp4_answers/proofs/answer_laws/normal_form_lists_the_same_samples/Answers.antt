use Rattle.mp4_answers.proofs.SameAnswers.{normal_form_lists_the_same_samples}
use Rattle.mp4_answers.proofs.answer_laws.normal_form_lists_the_same_samples.Goals as goal

pub returns : goal.returns
returns c = normal_form_lists_the_same_samples
