use Rattle.std.proofs.Common.{ℕ, suc, List, map}
use Rattle.mp4_boxes.specs.format.Places.{ruled}
use Rattle.mp4_boxes.specs.words.View.{box_seen}
use Rattle.mp4_boxes.specs.declared.rule.Rule.TheVariants.{Track}
use Rattle.mp4_head.specs.words.Ids.{HasIds}
use Rattle.mp4_head.specs.words.Refuses.{place_of}
use Rattle.mp4_head.proofs.FaultWalks.{FaultPassed, fault_at}
use Rattle.mp4_head.specs.words.Seen.{edit_seen, kept_seen}
use Rattle.mp4_head.proofs.TrackBoxes.{TrackPassed}
use Rattle.mp4_head.proofs.track_boxes.read_track.Given as goal

abbrev pub invariant-loop-child : goal.invariant-loop-child
invariant-loop-child l =
    (goal.iterator-loop-child).can_next l.child-iterator
    × (goal.iterator-loop-child).is_finite l.child-iterator
    × TrackPassed l.fn.ids l.initial.child-iterator l.child-iterator l.ids l.header (map edit_seen l.edits.items) (map kept_seen l.kept.items) l.media
    × ((n : ℕ) (numbers : List ℕ) → HasIds l.fn.ids numbers → FaultPassed (fault_at (suc (suc (suc (suc n)))) numbers (place_of (ruled Track) (box_seen l.fn.trak))) l.initial.child-iterator l.child-iterator)
