use Rattle.mp4_answers.proofs.SameAnswers.{same_stays_same}
use Rattle.mp4_answers.proofs.answer_laws.same_stays_same.Goals as goal

pub returns : goal.returns
returns c = same_stays_same
