use Rattle.std.specs.Prelude.{codes, option_map}
use Rattle.mp4_boxes.specs.words.View.{box_seen}
use Rattle.mp4_frag.proofs.HeadsFound.{LastSeen}
use Rattle.mp4_frag.proofs.check.check_boxes.Given as goal

-- the `tfhd` and the `tfdt` among the boxes so far
abbrev pub invariant-loop-child : goal.invariant-loop-child
invariant-loop-child l =
    (goal.iterator-loop-child).can_next l.child-iterator
    × (goal.iterator-loop-child).is_finite l.child-iterator
    × LastSeen (codes "tfhd") l.initial.child-iterator l.child-iterator (option_map box_seen l.heads.head)
    × LastSeen (codes "tfdt") l.initial.child-iterator l.child-iterator (option_map box_seen l.heads.time)
