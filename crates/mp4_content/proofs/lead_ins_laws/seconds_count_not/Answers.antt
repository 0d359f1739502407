use Rattle.mp4_content.proofs.LeadInsSteps.{seconds_count_not}
use Rattle.mp4_content.proofs.lead_ins_laws.seconds_count_not.Goals as goal

pub returns : goal.returns
returns c = seconds_count_not
