use Rattle.mp4_answers.proofs.SameAnswers.{same_is_same_bytes}
use Rattle.mp4_answers.proofs.answer_laws.same_is_same_bytes.Goals as goal

pub returns : goal.returns
returns c = same_is_same_bytes
