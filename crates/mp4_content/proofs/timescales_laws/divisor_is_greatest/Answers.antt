use Rattle.mp4_content.proofs.TimescalesDivisors.{is_divisor}
use Rattle.mp4_content.proofs.timescales_laws.divisor_is_greatest.Goals as goal

pub returns : goal.returns
returns c = is_divisor
