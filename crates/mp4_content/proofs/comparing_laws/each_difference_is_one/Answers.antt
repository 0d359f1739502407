use Rattle.mp4_content.proofs.ComparisonWhole.{each_difference_is_one}
use Rattle.mp4_content.proofs.comparing_laws.each_difference_is_one.Goals as goal

pub returns : goal.returns
returns c = each_difference_is_one
