use Rattle.mp4_boxes.specs.words.View.{box_seen}
use Rattle.mp4_tables.specs.words.Leaves.{boxes_of}
use Rattle.mp4_tables.proofs.LeafLists.{NonePassed}
use Rattle.mp4_tables.proofs.leaves.first_of.Given as goal

-- no box of the type was passed
abbrev pub invariant-loop-child : goal.invariant-loop-child
invariant-loop-child l = (goal.iterator-loop-child).can_next l.child-iterator × (goal.iterator-loop-child).is_finite l.child-iterator × NonePassed l.kind.0 (boxes_of (box_seen l.stbl)) l.child-iterator
