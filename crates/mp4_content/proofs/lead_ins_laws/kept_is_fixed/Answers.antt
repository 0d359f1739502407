use Rattle.mp4_content.proofs.LeadInsMore.{kept_is_fixed}
use Rattle.mp4_content.proofs.lead_ins_laws.kept_is_fixed.Goals as goal

pub returns : goal.returns
returns c = kept_is_fixed
