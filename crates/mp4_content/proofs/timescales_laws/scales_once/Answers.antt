use Rattle.mp4_content.proofs.TimescalesWords.{scales_once}
use Rattle.mp4_content.proofs.timescales_laws.scales_once.Goals as goal

pub returns : goal.returns
returns c = scales_once
