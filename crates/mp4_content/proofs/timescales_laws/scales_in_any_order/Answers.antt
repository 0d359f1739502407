use Rattle.mp4_content.proofs.TimescalesWords.{scales_in_any_order}
use Rattle.mp4_content.proofs.timescales_laws.scales_in_any_order.Goals as goal

pub returns : goal.returns
returns c = scales_in_any_order
