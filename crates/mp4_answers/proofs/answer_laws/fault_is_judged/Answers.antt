use Rattle.mp4_answers.proofs.ToldFaults.{own_fault}
use Rattle.mp4_answers.proofs.answer_laws.fault_is_judged.Goals as goal

pub returns : goal.returns
returns c = own_fault
