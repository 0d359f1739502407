use Rattle.mp4_content.proofs.LeadInsMoments.{delay_is_from_first}
use Rattle.mp4_content.proofs.lead_ins_laws.delay_is_from_first.Goals as goal

pub returns : goal.returns
returns c = delay_is_from_first
