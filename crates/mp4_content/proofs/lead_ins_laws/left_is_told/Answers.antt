use Rattle.mp4_content.proofs.LeadInsTold.{left_is_told}
use Rattle.mp4_content.proofs.lead_ins_laws.left_is_told.Goals as goal

pub returns : goal.returns
returns c = left_is_told
