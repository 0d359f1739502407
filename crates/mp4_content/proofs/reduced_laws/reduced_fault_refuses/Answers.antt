use Rattle.mp4_content.proofs.ReducedFaults.{refuses}
use Rattle.mp4_content.proofs.reduced_laws.reduced_fault_refuses.Goals as goal

pub returns : goal.returns
returns c = refuses
