-- Why the list of boxes is not put.
use Rattle.std.proofs.Common.{inl}
use Rattle.std.specs.Prelude.{Err}
use Rattle.mp4_boxes.specs.declared.refusal.Refusal.{Refusal}
use Rattle.mp4_boxes.specs.declared.refusal.Refusal.TheVariants as refusals
use Rattle.mp4_answers.specs.declared.jobs.BoxForm.{BoxForm}
use Rattle.mp4_answers.specs.format.Answers.{FormListed}
use Rattle.mp4_answers.specs.format.BoxWalk.{RefusesTops}
use Rattle.mp4_answers.specs.format.Run.{Run, PutsNothing}

-- they are not found
pub tops_fail : (A : Type 0) (form : BoxForm) (r : Run) (e : Refusal) → PutsNothing r → RefusesTops r.honest r.file r.reads r.reads_after e → FormListed {A = A} form r (Err e)
tops_fail A form r (refusals.Fault f) n w = ((n, w), tt, tt)
tops_fail A form r refusals.Memory n w = (n, tt, tt)
tops_fail A form r refusals.StoreFailed n w = ((w, λ told. inl n), n, tt)
tops_fail A form r refusals.StoreChanged n w = absurd w
tops_fail A form r refusals.WriteFailed n w = absurd w
tops_fail A form r refusals.NoSuchTrack n w = absurd w
