use Rattle.std.proofs.Common.{ℕ, suc, List}
use Rattle.mp4_boxes.specs.format.Places.{ruled}
use Rattle.mp4_boxes.specs.words.View.{box_seen}
use Rattle.mp4_boxes.specs.declared.rule.Rule.TheVariants.{DataInformation}
use Rattle.mp4_head.specs.words.Refuses.{place_of}
use Rattle.mp4_head.proofs.FaultWalks.{FaultPassed, fault_at}
use Rattle.mp4_head.proofs.TableBoxes.{DataPassed}
use Rattle.mp4_head.proofs.information.check_data_information.Given as goal

abbrev pub invariant-loop-child : goal.invariant-loop-child
invariant-loop-child l = (goal.iterator-loop-child).can_next l.child-iterator × (goal.iterator-loop-child).is_finite l.child-iterator × DataPassed l.initial.child-iterator l.child-iterator
    × ((n : ℕ) (ids : List ℕ) → FaultPassed (fault_at (suc n) ids (place_of (ruled DataInformation) (box_seen l.fn.dinf))) l.initial.child-iterator l.child-iterator)
