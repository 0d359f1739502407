use Rattle.mp4_content.proofs.LeadInsUntimed.{keeps_more_without_times}
use Rattle.mp4_content.proofs.lead_ins_laws.keeps_more_without_times.Goals as goal

pub returns : goal.returns
returns c = keeps_more_without_times
