use Rattle.mp4_content.proofs.ComparisonWhole.{no_difference_is_same}
use Rattle.mp4_content.proofs.comparing_laws.no_difference_is_same.Goals as goal

pub returns : goal.returns
returns c = no_difference_is_same
