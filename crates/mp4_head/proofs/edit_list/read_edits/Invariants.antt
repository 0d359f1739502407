use Rattle.std.proofs.Common.{ℕ, List, map}
use Rattle.mp4_boxes.specs.format.Places.{ruled}
use Rattle.mp4_boxes.specs.words.View.{box_seen}
use Rattle.mp4_boxes.specs.declared.rule.Rule.TheVariants.{Edits}
use Rattle.mp4_head.specs.words.Refuses.{place_of}
use Rattle.mp4_head.proofs.FaultWalks.{FaultPassed, fault_at}
use Rattle.mp4_head.specs.words.Seen.{edit_seen}
use Rattle.mp4_head.proofs.EditBoxes.{EditsPassed}
use Rattle.mp4_head.proofs.edit_list.read_edits.Given as goal

abbrev pub invariant-loop-child : goal.invariant-loop-child
invariant-loop-child l =
    (goal.iterator-loop-child).can_next l.child-iterator
    × (goal.iterator-loop-child).is_finite l.child-iterator
    × EditsPassed l.initial.child-iterator l.child-iterator (map edit_seen l.edits.items)
    × ((n : ℕ) (ids : List ℕ) → FaultPassed (fault_at n ids (place_of (ruled Edits) (box_seen l.edts))) l.initial.child-iterator l.child-iterator)
