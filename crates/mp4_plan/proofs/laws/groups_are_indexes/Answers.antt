use Rattle.mp4_plan.proofs.SampleGroups.{groups_are_indexes}
use Rattle.mp4_plan.proofs.laws.groups_are_indexes.Goals as goal

pub returns : goal.returns
returns c = groups_are_indexes
