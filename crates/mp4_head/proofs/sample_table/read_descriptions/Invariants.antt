use Rattle.std.proofs.Common.{ℕ, List, map}
use Rattle.mp4_boxes.specs.format.Places.{sample_entries}
use Rattle.mp4_boxes.specs.words.View.{box_seen}
use Rattle.mp4_head.specs.words.Refuses.{place_of}
use Rattle.mp4_head.proofs.FaultWalks.{FaultPassed, fault_at}
use Rattle.mp4_head.specs.words.Seen.{kept_seen}
use Rattle.mp4_head.proofs.Entries.{DescriptionsPassed}
use Rattle.mp4_head.proofs.sample_table.read_descriptions.Given as goal

abbrev pub invariant-loop-entry : goal.invariant-loop-entry
invariant-loop-entry l = (goal.iterator-loop-entry).can_next l.entry-iterator × (goal.iterator-loop-entry).is_finite l.entry-iterator × DescriptionsPassed l.initial.entry-iterator l.entry-iterator (map kept_seen l.descriptions.items)
    × ((n : ℕ) (ids : List ℕ) → FaultPassed (fault_at n ids (place_of sample_entries (box_seen l.fn.view))) l.initial.entry-iterator l.entry-iterator)
