-- What is found of bytes in memory.
use Rattle.std.proofs.Common.{ℕ, List, refl, arith}
use Rattle.std.specs.Prelude.{Err}
use Rattle.mp4_boxes.specs.declared.fault.Fault.{Fault}
use Rattle.mp4_boxes.specs.declared.refusal.Refusal.{Refusal}
use Rattle.mp4_boxes.specs.declared.refusal.Refusal.TheVariants as refusals
use Rattle.mp4_answers.specs.format.Run.{Answered}
use Rattle.mp4norm_c.specs.format.Exports.{Found}
use Rattle.mp4norm_c.specs.words.Windows.{quiet_run}

-- a refusal of a run of which no read and no put fails, and that never lacks a track
pub found_not : (A : Type 0) (IsText : List ℕ → Type 0) (IsFault : Fault → Type 0) (IsAnswer : ℕ → Type 0) (file : List ℕ) (took : List ℕ → Type 0) (r : Refusal) → Answered {A = A} (quiet_run file took) IsText IsFault ⊥ (Err r) → Found IsAnswer IsFault (Err r)
found_not B I F A file took (refusals.Fault f) a = a.1 refl
found_not B I F A file took refusals.Memory a = tt
found_not B I F A file took refusals.NoSuchTrack a = absurd a.1
found_not B I F A file took refusals.StoreChanged a = absurd (a refl)
found_not B I F A file took refusals.StoreFailed a = absurd (omega (arith, a.0))
found_not B I F A file took refusals.WriteFailed a = absurd (omega (arith, a.0))
