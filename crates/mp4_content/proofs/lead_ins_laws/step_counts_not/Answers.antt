use Rattle.mp4_content.proofs.LeadInsSteps.{step_counts_not}
use Rattle.mp4_content.proofs.lead_ins_laws.step_counts_not.Goals as goal

pub returns : goal.returns
returns c = step_counts_not
