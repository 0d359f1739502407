use Rattle.std.specs.Prelude.{Contains}
use Rattle.mp4_boxes.specs.format.Box.{Box}
use Rattle.mp4_present.proofs.faults.gaps.child_of.Given as goal

-- the boxes to come are boxes of the container
abbrev pub invariant-loop-child : goal.invariant-loop-child
invariant-loop-child l =
    (goal.iterator-loop-child).can_next l.child-iterator
    × (goal.iterator-loop-child).is_finite l.child-iterator
    × ((b : Box) → Contains l.child-iterator b → Contains l.initial.child-iterator b)
