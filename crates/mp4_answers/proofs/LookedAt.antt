-- What is so of each answer before which the whole file was looked at.
use Rattle.std.proofs.Common.{ℕ, List}
use Rattle.std.specs.Prelude.{Bool, OnOk, Result, Ok, Err}
use Rattle.mp4_boxes.specs.declared.refusal.Refusal.{Refusal}
use Rattle.mp4_boxes.specs.declared.refusal.Refusal.TheVariants as refusals
use Rattle.mp4_present.specs.words.Opening.{RefusesOpen}
use Rattle.mp4_answers.specs.format.Steps.{OnJudged}

pub on_judged : {A P : Type 0} (r : Result A Refusal) → P → OnJudged r P
on_judged (Ok x) p = p
on_judged (Err (refusals.Fault f)) p = tt
on_judged (Err refusals.Memory) p = tt
on_judged (Err refusals.NoSuchTrack) p = p
on_judged (Err refusals.StoreChanged) p = tt
on_judged (Err refusals.StoreFailed) p = tt
on_judged (Err refusals.WriteFailed) p = p

pub judged_ok : {A : Type 0} (P : Type 0) (r : Result A Refusal) → OnJudged r P → OnOk r P
judged_ok P (Ok x) p = p
judged_ok P (Err r) p = tt

-- opening a file answers none of them but Ok
pub not_judged : (A P : Type 0) (honest : Bool) (file : List ℕ) (reads reads_after : ℕ) (r : Refusal) → RefusesOpen honest file reads reads_after r → OnJudged {A = A} (Err r) P
not_judged A P honest file reads reads_after (refusals.Fault f) why = tt
not_judged A P honest file reads reads_after refusals.Memory why = tt
not_judged A P honest file reads reads_after refusals.NoSuchTrack why = absurd why
not_judged A P honest file reads reads_after refusals.StoreChanged why = tt
not_judged A P honest file reads reads_after refusals.StoreFailed why = tt
not_judged A P honest file reads reads_after refusals.WriteFailed why = absurd why
