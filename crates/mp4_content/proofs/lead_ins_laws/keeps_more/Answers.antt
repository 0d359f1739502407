use Rattle.mp4_content.proofs.LeadInsMore.{keeps_more}
use Rattle.mp4_content.proofs.lead_ins_laws.keeps_more.Goals as goal

pub returns : goal.returns
returns c = keeps_more
