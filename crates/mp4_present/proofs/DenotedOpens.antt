-- A file that denotes a presentation is refused for want of memory or for a failed read alone.
use Rattle.std.proofs.Common.{ℕ, Bool, List}
use Rattle.std.specs.Prelude.{IsTrue}
use Rattle.mp4_boxes.specs.declared.fault.Fault.{Fault}
use Rattle.mp4_boxes.specs.declared.refusal.Refusal.{Refusal}
use Rattle.mp4_boxes.specs.declared.refusal.Refusal.TheVariants as refusals
use Rattle.mp4_present.specs.format.Denotes.{Denotes}
use Rattle.mp4_present.specs.words.Opening.{RefusesOpen, RefusesDenoted}
use Rattle.mp4_present.specs.format.Presentation.{Presentation}
use Rattle.mp4_present.specs.format.Stands.{Reason, StandsBy, header, child, missing, leaf, tables, fragment, count, limit, order}
use Rattle.mp4_present.proofs.BoxReasons.{header_refuses, child_refuses, missing_stands_refuses}
use Rattle.mp4_present.proofs.Counts.{count_refuses}
use Rattle.mp4_present.proofs.FragmentReasons.{fragment_refuses}
use Rattle.mp4_present.proofs.JudgedTrees.{judged_fault_stands}
use Rattle.mp4_present.proofs.Leaves.{leaf_refuses}
use Rattle.mp4_present.proofs.Limits.{limit_refuses}
use Rattle.mp4_present.proofs.Order.{order_refuses}
use Rattle.mp4_present.proofs.TableReasons.{tables_refuse}

-- where a fault stands, nothing is denoted
pub stands_refuses : (reason : Reason) (file : List ℕ) (f : Fault) (p : Presentation) → StandsBy reason file f → Denotes file p → ⊥
stands_refuses header = header_refuses
stands_refuses child = child_refuses
stands_refuses missing = missing_stands_refuses
stands_refuses leaf = leaf_refuses
stands_refuses tables = tables_refuse
stands_refuses fragment = fragment_refuses
stands_refuses count = count_refuses
stands_refuses limit = limit_refuses
stands_refuses order = order_refuses

pub denoted_opens : (honest : Bool) (file : List ℕ) (p : Presentation) (reads reads_after : ℕ) (r : Refusal) → IsTrue honest → Denotes file p → RefusesOpen honest file reads reads_after r → RefusesDenoted reads reads_after r
denoted_opens honest file p reads reads_after (refusals.Fault f) told d w = let s = judged_fault_stands file f (w told) in stands_refuses s.0 file f p s.1 d
denoted_opens honest file p reads reads_after refusals.Memory told d w = tt
denoted_opens honest file p reads reads_after refusals.StoreFailed told d w = w
denoted_opens honest file p reads reads_after refusals.StoreChanged told d w = w told
denoted_opens honest file p reads reads_after refusals.WriteFailed told d w = w
denoted_opens honest file p reads reads_after refusals.NoSuchTrack told d w = w
