use Rattle.mp4_content.proofs.LeadInsSteps.{waited_is_exact}
use Rattle.mp4_content.proofs.lead_ins_laws.waited_is_exact.Goals as goal

pub returns : goal.returns
returns c = waited_is_exact
