use Rattle.std.proofs.Common.{ℕ, suc, List, map}
use Rattle.mp4_boxes.specs.format.Places.{ruled}
use Rattle.mp4_boxes.specs.words.View.{box_seen}
use Rattle.mp4_boxes.specs.declared.rule.Rule.TheVariants.{Media}
use Rattle.mp4_head.specs.words.Refuses.{place_of}
use Rattle.mp4_head.proofs.FaultWalks.{FaultPassed, fault_at}
use Rattle.mp4_head.proofs.MediaBoxes.{MediaPassed}
use Rattle.mp4_head.proofs.media_boxes.read_media.Given as goal

abbrev pub invariant-loop-child : goal.invariant-loop-child
invariant-loop-child l =
    (goal.iterator-loop-child).can_next l.child-iterator
    × (goal.iterator-loop-child).is_finite l.child-iterator
    × MediaPassed l.initial.child-iterator l.child-iterator l.header l.handler (map (λ p. p.now) l.extended_languages.items) l.information
    × ((n : ℕ) (ids : List ℕ) → FaultPassed (fault_at (suc (suc (suc n))) ids (place_of (ruled Media) (box_seen l.fn.mdia))) l.initial.child-iterator l.child-iterator)
