use Rattle.mp4_content.proofs.TimescalesWords.{same_scaled_without_more}
use Rattle.mp4_content.proofs.timescales_laws.same_scaled_without_more.Goals as goal

pub returns : goal.returns
returns c = same_scaled_without_more
