use Rattle.std.proofs.Common.{ℕ, suc, [], map}
use Rattle.mp4_boxes.specs.format.Places.{ruled}
use Rattle.mp4_boxes.specs.words.View.{box_seen}
use Rattle.mp4_boxes.specs.declared.rule.Rule.TheVariants.{Movie}
use Rattle.mp4_head.specs.words.Refuses.{place_of}
use Rattle.mp4_head.proofs.FaultWalks.{FaultPassed, fault_at}
use Rattle.mp4_head.specs.words.Seen.{kept_seen}
use Rattle.mp4_head.proofs.MovieBoxes.{MoviePassed}
use Rattle.mp4_head.proofs.reading.read_head.Given as goal

abbrev pub invariant-loop-child : goal.invariant-loop-child
invariant-loop-child l =
    (goal.iterator-loop-child).can_next l.child-iterator
    × (goal.iterator-loop-child).is_finite l.child-iterator
    × MoviePassed l.initial.child-iterator l.child-iterator l.header (map kept_seen l.kept.items) l.tracks.items l.ids l.trexes.items
    × ((n : ℕ) → FaultPassed (fault_at (suc (suc (suc (suc (suc n))))) [] (place_of (ruled Movie) (box_seen l.fn.moov))) l.initial.child-iterator l.child-iterator)
