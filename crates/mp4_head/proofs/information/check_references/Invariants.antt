use Rattle.std.proofs.Common.{ℕ, List}
use Rattle.mp4_boxes.specs.format.Places.{data_entries}
use Rattle.mp4_boxes.specs.words.View.{box_seen}
use Rattle.mp4_head.specs.words.Refuses.{place_of}
use Rattle.mp4_head.proofs.FaultWalks.{FaultPassed, fault_at}
use Rattle.mp4_head.proofs.Entries.{ReferencesPassed}
use Rattle.mp4_head.proofs.information.check_references.Given as goal

abbrev pub invariant-loop-entry : goal.invariant-loop-entry
invariant-loop-entry l = (goal.iterator-loop-entry).can_next l.entry-iterator × (goal.iterator-loop-entry).is_finite l.entry-iterator × ReferencesPassed l.initial.entry-iterator l.entry-iterator
    × ((n : ℕ) (ids : List ℕ) → FaultPassed (fault_at n ids (place_of data_entries (box_seen l.fn.view))) l.initial.entry-iterator l.entry-iterator)
