use Rattle.mp4_plan.proofs.GroupRows.{group_rows_are_longest}
use Rattle.mp4_plan.proofs.laws.group_rows_are_longest.Goals as goal

pub returns : goal.returns
returns c = group_rows_are_longest
