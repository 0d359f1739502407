use Rattle.mp4_content.proofs.LeadInsOrder.{timing_changes_again}
use Rattle.mp4_content.proofs.lead_ins_laws.timing_changes_again.Goals as goal

pub returns : goal.returns
returns c = timing_changes_again
