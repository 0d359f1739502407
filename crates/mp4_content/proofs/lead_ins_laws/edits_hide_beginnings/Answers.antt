use Rattle.mp4_content.proofs.LeadInsOrder.{edits_hide_beginnings}
use Rattle.mp4_content.proofs.lead_ins_laws.edits_hide_beginnings.Goals as goal

pub returns : goal.returns
returns c = edits_hide_beginnings
