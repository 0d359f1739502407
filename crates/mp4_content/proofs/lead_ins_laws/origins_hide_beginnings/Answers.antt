use Rattle.mp4_content.proofs.LeadInsOrder.{origins_hide_beginnings}
use Rattle.mp4_content.proofs.lead_ins_laws.origins_hide_beginnings.Goals as goal

pub returns : goal.returns
returns c = origins_hide_beginnings
