use Rattle.mp4_answers.proofs.LeftFaults.{left_fault_is_one}
use Rattle.mp4_answers.proofs.answer_laws.left_fault_is_one.Goals as goal

pub returns : goal.returns
returns c = left_fault_is_one
