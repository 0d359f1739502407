use Rattle.mp4_answers.proofs.SameAnswers.{accepted_has_no_fault}
use Rattle.mp4_answers.proofs.answer_laws.accepted_has_no_fault.Goals as goal

pub returns : goal.returns
returns c = accepted_has_no_fault
