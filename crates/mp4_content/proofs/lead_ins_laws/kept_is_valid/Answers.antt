use Rattle.mp4_content.proofs.LeadInsValid.{kept_is_valid}
use Rattle.mp4_content.proofs.lead_ins_laws.kept_is_valid.Goals as goal

pub returns : goal.returns
returns c = kept_is_valid
