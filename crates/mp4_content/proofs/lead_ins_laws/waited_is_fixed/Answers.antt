use Rattle.mp4_content.proofs.LeadInsTracks.{waited_is_fixed}
use Rattle.mp4_content.proofs.lead_ins_laws.waited_is_fixed.Goals as goal

pub returns : goal.returns
returns c = waited_is_fixed
