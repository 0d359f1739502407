use Rattle.std.proofs.Common.{ℕ, List}
use Rattle.mp4_boxes.specs.format.Places.{ruled}
use Rattle.mp4_boxes.specs.words.View.{box_seen}
use Rattle.mp4_boxes.specs.declared.rule.Rule.TheVariants.{MovieExtends}
use Rattle.mp4_head.specs.words.Refuses.{place_of}
use Rattle.mp4_head.proofs.FaultWalks.{FaultPassed, fault_at}
use Rattle.mp4_head.proofs.ExtendsBoxes.{ExtendsPassed}
use Rattle.mp4_head.proofs.extends.read_extends.Given as goal

abbrev pub invariant-loop-child : goal.invariant-loop-child
invariant-loop-child l = (goal.iterator-loop-child).can_next l.child-iterator × (goal.iterator-loop-child).is_finite l.child-iterator × ExtendsPassed l.initial.child-iterator l.child-iterator l.trexes.items l.ids
    × ((n : ℕ) (ids : List ℕ) → FaultPassed (fault_at n ids (place_of (ruled MovieExtends) (box_seen l.fn.mvex))) l.initial.child-iterator l.child-iterator)
