use Rattle.std.proofs.Common.{ℕ, suc, List}
use Rattle.mp4_boxes.specs.format.Places.{ruled}
use Rattle.mp4_boxes.specs.words.View.{box_seen}
use Rattle.mp4_boxes.specs.declared.rule.Rule.TheVariants.{MediaInformation}
use Rattle.mp4_head.specs.words.Refuses.{place_of}
use Rattle.mp4_head.proofs.FaultWalks.{FaultPassed, fault_at}
use Rattle.mp4_head.proofs.InformationBoxes.{InformationPassed}
use Rattle.mp4_head.proofs.information.read_information.Given as goal

abbrev pub invariant-loop-child : goal.invariant-loop-child
invariant-loop-child l = (goal.iterator-loop-child).can_next l.child-iterator × (goal.iterator-loop-child).is_finite l.child-iterator × InformationPassed l.initial.child-iterator l.child-iterator l.header l.tables
    × ((n : ℕ) (ids : List ℕ) → FaultPassed (fault_at (suc (suc n)) ids (place_of (ruled MediaInformation) (box_seen l.fn.minf))) l.initial.child-iterator l.child-iterator)
