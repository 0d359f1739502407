-- The parts of a piece that a writer takes along are what is written of it.
use Rattle.std.proofs.Common.{◌≡◌, ℕ, List, ◌++◌, ap, ◌∙◌}
use Rattle.std.specs.Prelude.{codes}
use Rattle.mp4_boxes.specs.format.Written.{header_bytes}
use Rattle.mp4_store.specs.declared.sink.Sink.{Ghosts as Sink}
use Rattle.mp4_present.specs.format.Denotes.{FileTree}
use Rattle.mp4_present.specs.words.Latches.{Goes}
use Rattle.mp4_present.specs.words.Movies.{MovieSeen}
use Rattle.mp4_present.specs.declared.latch.Latch.{Latch}
use Rattle.mp4_present.specs.declared.out_buffer.OutBuffer.{OutBuffer}
use Rattle.mp4_present.proofs.Latched.{goes_as, goes_on}
use Rattle.mp4_plan.specs.words.Writers.{IsNoted}
use Rattle.mp4_plan.specs.declared.writer.Writer.{Writer}
use Rattle.mp4_tables.specs.declared.sample.SampleAt.{SampleAt}
use Rattle.mp4_tables.specs.format.Groups.{GroupKey}
use Rattle.mp4_plan.specs.words.Sizes.{moof_sizes}
use Rattle.mp4_plan.specs.words.Spelling.{moof_front, run_rows}
use Rattle.mp4_plan.specs.words.Taken.{piece_front}
use Rattle.mp4_plan.specs.words.UsedKeys.{groups_bytes}
use Rattle.mp4_plan.specs.declared.moof_front.PieceHead.{PieceHead}
use Rattle.mp4_plan.specs.declared.moof_sizes.MoofSizes.{MoofSizes}
use Rattle.mp4_plan.specs.declared.planner.Planned.{Planned}
use Rattle.mp4_plan.specs.declared.noted_rows.Row.{Row}

-- the parts together
pub parts_are : (head : PieceHead) (p : Planned) (sizes : MoofSizes) (keys told : List GroupKey) (rows noted : List Row) (front mdat bytes_there : List ℕ) → front ≡ moof_front head p sizes → sizes ≡ moof_sizes p told → told ≡ keys → noted ≡ rows → mdat ≡ header_bytes (codes "mdat") p.bytes
    → (front ++ run_rows p noted ++ groups_bytes noted p told ++ mdat) ++ bytes_there ≡ piece_front head p keys rows ++ bytes_there
parts_are head p sizes keys told rows noted front mdat bytes_there f s k r m =
    let whole : front ≡ moof_front head p (moof_sizes p keys) = f ∙ ap (moof_front head p) (s ∙ ap (moof_sizes p) k) in
    λ i. (whole i ++ run_rows p (r i) ++ groups_bytes (r i) p (k i) ++ m i) ++ bytes_there

-- four of them in front of the bytes, one behind the other
pub parts_go : {Y : Type 0} (K : Sink Y) {l1 l2 l3 l4 l5 : Latch Y} (p q r t all : List ℕ) → Goes K l1 l2 p → Goes K l2 l3 q → Goes K l3 l4 r → Goes K l4 l5 t → all ≡ p ++ q ++ r ++ t → Goes K l1 l5 all
parts_go K p q r t all x y z w is = goes_as K (p ++ q ++ r) t all (goes_on K (p ++ q) r (goes_on K p q x y) z) w is

-- what was noted doesn't depend on what waits to be put
unfoldable pub noted_with : (file : List ℕ) (tree : FileTree) (m : MovieSeen) (track count : ℕ) (samples : List SampleAt) (w : Writer) (c : OutBuffer) → IsNoted file tree m track count samples w → IsNoted file tree m track count samples (record w { carrier = c })
noted_with file tree m track count samples w c h = record { t = h.t; walk = h.walk; is_walk = h.is_walk; reduction = h.reduction; comes = h.comes; none = h.none; next = h.next; rows = h.rows; stretches = h.stretches }
