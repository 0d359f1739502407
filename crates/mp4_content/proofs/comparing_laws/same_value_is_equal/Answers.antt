use Rattle.mp4_content.proofs.ComparisonValues.{same_value_is_equal}
use Rattle.mp4_content.proofs.comparing_laws.same_value_is_equal.Goals as goal

pub returns : goal.returns
returns c = same_value_is_equal
