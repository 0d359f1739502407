use Rattle.mp4_content.proofs.ReducedFaults.{is_one}
use Rattle.mp4_content.proofs.reduced_laws.reduced_fault_is_one.Goals as goal

pub returns : goal.returns
returns c = is_one
