use Rattle.mp4_content.proofs.LeadInsUntimed.{kept_without_times}
use Rattle.mp4_content.proofs.lead_ins_laws.kept_without_times.Goals as goal

pub returns : goal.returns
returns c = kept_without_times
