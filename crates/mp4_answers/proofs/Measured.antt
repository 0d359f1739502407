-- Why the length of a job's text is not told: as the job is refused, before anything is put.
use Rattle.std.proofs.Common.{◌≡◌, inl, inr, refl}
use Rattle.std.specs.Prelude.{Result, Ok, Err, IfErr}
use Rattle.mp4_boxes.specs.declared.fault.Fault.{Fault}
use Rattle.mp4_boxes.specs.declared.refusal.Refusal.{Refusal}
use Rattle.mp4_boxes.specs.declared.refusal.Refusal.TheVariants as refusals
use Rattle.mp4_content.specs.format.LeadIns.{words_told}
use Rattle.mp4_content.specs.words.Opened.{RefusesPlan}
use Rattle.mp4_plan.specs.words.LeftRefusals.{RefusesLeft}
use Rattle.mp4_answers.specs.format.Answers.{RefusesJob}
use Rattle.mp4_answers.specs.format.Run.{Run, Honest, PutsNothing}
use Rattle.mp4_answers.specs.declared.jobs.Job.TheVariants as jobs
use Rattle.mp4_answers.specs.declared.selection.Selection.{Selection}
use Rattle.mp4_answers.proofs.ReducedNormalised.{TooLong}

module _ (r : Run) (none : PutsNothing r) where
  plan_fails : (e : Refusal) → RefusesPlan r.reads r.reads_after e → (Honest r → e ≡ refusals.StoreChanged → ⊥) → RefusesJob jobs.Normalise r e
  plan_fails (refusals.Fault f) w u = absurd w
  plan_fails refusals.Memory w u = none
  plan_fails refusals.StoreFailed w u = (w, λ told. inl none)
  plan_fails refusals.StoreChanged w u = λ told. u told refl
  plan_fails refusals.WriteFailed w u = absurd w
  plan_fails refusals.NoSuchTrack w u = absurd w

  pub not_planned : {T : Type 0} (answer : Result T Refusal) → IfErr answer (RefusesPlan r.reads r.reads_after) → (Honest r → IfErr answer (λ e. e ≡ refusals.StoreChanged → ⊥)) → IfErr answer (RefusesJob jobs.Normalise r)
  not_planned (Ok x) w u = tt
  not_planned (Err e) w u = plan_fails e w u

  left_fails : (s : Selection) (e : Refusal) → RefusesLeft (words_told s.leaving) r.reads r.reads_after e → (Honest r → e ≡ refusals.StoreChanged → ⊥) → (Honest r → TooLong s r.file e) → RefusesJob (jobs.Reduce s) r e
  left_fails s (refusals.Fault f) w u t = ((none, λ told. inr (t told)), λ told late. none)
  left_fails s refusals.Memory w u t = (none, λ told late. none)
  left_fails s refusals.StoreFailed w u t = ((w, λ told. inl none), λ told late. none)
  left_fails s refusals.StoreChanged w u t = ((λ told. u told refl), λ told late. none)
  left_fails s refusals.WriteFailed w u t = absurd w
  left_fails s refusals.NoSuchTrack w u t = absurd w

  pub left_not_planned : (s : Selection) {T : Type 0} (answer : Result T Refusal) → IfErr answer (RefusesLeft (words_told s.leaving) r.reads r.reads_after) → (Honest r → IfErr answer (λ e. e ≡ refusals.StoreChanged → ⊥))
      → (Honest r → IfErr answer (TooLong s r.file)) → IfErr answer (RefusesJob (jobs.Reduce s) r)
  left_not_planned s (Ok x) w u t = tt
  left_not_planned s (Err e) w u t = left_fails s e w u t
