-- Why a call gave no answer, and why one that calls it gives none.
use Rattle.std.proofs.Common.{ℕ, List}
use Rattle.mp4_boxes.specs.declared.refusal.Refusal.{Refusal}
use Rattle.mp4_boxes.specs.declared.refusal.Refusal.TheVariants as refusals
use Rattle.mp4_present.specs.words.Movies.{RefusesLoad}
use Rattle.mp4_present.specs.words.Carried.{RefusesCarry, RefusesCopy}

pub copy_not_loaded : (Took : List ℕ → Type 0) (reads reads_after puts puts_after : ℕ) (r : Refusal) → RefusesLoad reads reads_after r → RefusesCopy Took reads reads_after puts puts_after r
copy_not_loaded Took reads reads_after puts puts_after (refusals.Fault f) w = w
copy_not_loaded Took reads reads_after puts puts_after refusals.Memory w = absurd w
copy_not_loaded Took reads reads_after puts puts_after refusals.StoreFailed w = w
copy_not_loaded Took reads reads_after puts puts_after refusals.StoreChanged w = w
copy_not_loaded Took reads reads_after puts puts_after refusals.WriteFailed w = absurd w
copy_not_loaded Took reads reads_after puts puts_after refusals.NoSuchTrack w = w

pub copy_not_carried : (Took : List ℕ → Type 0) (reads reads_after puts puts_after : ℕ) (r : Refusal) → RefusesCarry reads reads_after puts puts_after r → RefusesCopy Took reads reads_after puts puts_after r
copy_not_carried Took reads reads_after puts puts_after (refusals.Fault f) w = w
copy_not_carried Took reads reads_after puts puts_after refusals.Memory w = absurd w
copy_not_carried Took reads reads_after puts puts_after refusals.StoreFailed w = w
copy_not_carried Took reads reads_after puts puts_after refusals.StoreChanged w = w
copy_not_carried Took reads reads_after puts puts_after refusals.WriteFailed w = w
copy_not_carried Took reads reads_after puts puts_after refusals.NoSuchTrack w = w
