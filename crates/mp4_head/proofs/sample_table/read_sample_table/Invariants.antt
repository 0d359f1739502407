use Rattle.std.proofs.Common.{ℕ, suc, List, map}
use Rattle.mp4_boxes.specs.format.Places.{ruled}
use Rattle.mp4_boxes.specs.words.View.{box_seen}
use Rattle.mp4_boxes.specs.declared.rule.Rule.TheVariants.{SampleTable}
use Rattle.mp4_head.specs.words.Refuses.{place_of}
use Rattle.mp4_head.proofs.FaultWalks.{FaultPassed, fault_at}
use Rattle.mp4_head.specs.words.Seen.{kept_seen}
use Rattle.mp4_head.proofs.TableBoxes.{TablePassed}
use Rattle.mp4_head.proofs.sample_table.read_sample_table.Given as goal

abbrev pub invariant-loop-child : goal.invariant-loop-child
invariant-loop-child l =
    (goal.iterator-loop-child).can_next l.child-iterator
    × (goal.iterator-loop-child).is_finite l.child-iterator
    × TablePassed l.initial.child-iterator l.child-iterator (map kept_seen l.descriptions.items) (map (λ p. p.now) l.group_descriptions.items)
    × ((n : ℕ) (ids : List ℕ) → FaultPassed (fault_at (suc n) ids (place_of (ruled SampleTable) (box_seen l.fn.stbl))) l.initial.child-iterator l.child-iterator)
