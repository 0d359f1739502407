use Rattle.mp4_content.proofs.LeadInsMore.{same_kept_without_beginnings}
use Rattle.mp4_content.proofs.lead_ins_laws.same_kept_without_beginnings.Goals as goal

pub returns : goal.returns
returns c = same_kept_without_beginnings
