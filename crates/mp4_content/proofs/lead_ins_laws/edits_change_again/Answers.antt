use Rattle.mp4_content.proofs.LeadInsOrder.{edits_change_again}
use Rattle.mp4_content.proofs.lead_ins_laws.edits_change_again.Goals as goal

pub returns : goal.returns
returns c = edits_change_again
