use Rattle.mp4_content.proofs.LeadInsTold.{kept_is_told}
use Rattle.mp4_content.proofs.lead_ins_laws.kept_is_told.Goals as goal

pub returns : goal.returns
returns c = kept_is_told
