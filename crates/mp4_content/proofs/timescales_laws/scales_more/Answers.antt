use Rattle.mp4_content.proofs.TimescalesWords.{scales_more}
use Rattle.mp4_content.proofs.timescales_laws.scales_more.Goals as goal

pub returns : goal.returns
returns c = scales_more
