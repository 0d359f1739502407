use Rattle.mp4_content.proofs.LeadInsValid.{told_is_valid}
use Rattle.mp4_content.proofs.lead_ins_laws.told_is_valid.Goals as goal

pub returns : goal.returns
returns c = told_is_valid
