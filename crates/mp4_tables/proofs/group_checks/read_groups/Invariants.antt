use Rattle.std.proofs.Common.{◌≡◌, ◌+◌, ◌*◌}
use Rattle.mp4_boxes.specs.words.View.{box_seen}
use Rattle.mp4_tables.specs.words.Accepted.{group_count}
use Rattle.mp4_tables.proofs.GroupWalks.{GroupsPassed}
use Rattle.mp4_tables.proofs.group_checks.read_groups.Given as goal

-- the groups are those of the children that were passed
abbrev pub invariant-loop-child : goal.invariant-loop-child
invariant-loop-child g l = (goal.iterator-loop-child g).can_next l.child-iterator × (goal.iterator-loop-child g).is_finite l.child-iterator × GroupsPassed (box_seen l.stbl) l.n l.groups l.child-iterator × (l.steps ≡ l.fn.steps + 2 * group_count l.groups)
