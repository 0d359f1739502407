use Rattle.mp4_content.proofs.LeadInsOrder.{timing_hides_beginnings}
use Rattle.mp4_content.proofs.lead_ins_laws.timing_hides_beginnings.Goals as goal

pub returns : goal.returns
returns c = timing_hides_beginnings
