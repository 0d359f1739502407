use Rattle.mp4_answers.proofs.StripFaults.{foreign_is_fault}
use Rattle.mp4_answers.proofs.laws.foreign_is_fault.Goals as goal

pub returns : goal.returns
returns c = foreign_is_fault
