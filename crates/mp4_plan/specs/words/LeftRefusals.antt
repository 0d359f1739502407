-- Why the normal form of what is left of a movie is not planned or written.
use Rattle.std.specs.Prelude.{ℕ, List, []}
use Rattle.mp4_boxes.specs.declared.refusal.Refusal.{Refusal}
use Rattle.mp4_boxes.specs.declared.refusal.Refusal.TheVariants as refusals
use Rattle.mp4_present.specs.words.Carried.{RefusesCopy}
use Rattle.mp4_content.specs.words.LeftTimes.{MayBeLong}
pub use Rattle.mp4_content.specs.words.Contents.{RefusesLeft}
use Rattle.mp4_content.specs.declared.without.Without.{Without}

-- Why what is left of a movie is not written: what was put, and counts of failed reads, and of
-- failed puts.
abbrev pub RefusesLeftCopy : Without → (List ℕ → Type 0) → ℕ → ℕ → ℕ → ℕ → Refusal → Type 0
RefusesLeftCopy l Took reads reads_after puts puts_after (refusals.Fault f) = MayBeLong l f
    × Took []
RefusesLeftCopy l Took reads reads_after puts puts_after r =
    RefusesCopy Took reads reads_after puts puts_after r
