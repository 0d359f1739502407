-- What a run answers, from why its parts fail.
use Rattle.std.proofs.Common.{◌≡◌, inl, inr, ℕ, List, refl, arith}
use Rattle.std.specs.Prelude.{Bool, Option, Result, Ok, Err, IfErr, OnOk, OnErr}
use Rattle.mp4_store.specs.words.Device.{count_after}
use Rattle.mp4_boxes.specs.declared.fault.Fault.{Fault}
use Rattle.mp4_boxes.specs.declared.refusal.Refusal.{Refusal}
use Rattle.mp4_boxes.specs.declared.refusal.Refusal.TheVariants as refusals
use Rattle.mp4_present.specs.words.Carried.{RefusesCarry, RefusesCopy, RefusesPut}
use Rattle.mp4_present.specs.words.Opening.{RefusesOpen}
use Rattle.mp4_present.specs.format.Judge.{judge}
use Rattle.mp4_content.specs.words.Opened.{RefusesPlan}
use Rattle.mp4_plan.proofs.Judged.{first_fault_refuses}
use Rattle.mp4_answers.specs.format.Answers.{IsFaultOf}
use Rattle.mp4_answers.specs.format.Headline.{DenotesNothing}
use Rattle.mp4_answers.specs.format.Selected.{LacksNamed}
use Rattle.mp4_answers.specs.format.Told.{judge_told}
use Rattle.mp4_answers.specs.words.OpenedTold.{RefusesTold}
use Rattle.mp4_answers.specs.format.Run.{Run, Honest, PutsNothing, PutsAll, PutsFront, PutsAtOnce, Answered}

-- what has a first fault denotes nothing
pub denotes_nothing : (file : List ℕ) (f : Fault) → judge file ≡ Err f → DenotesNothing file
denotes_nothing file f e p d = first_fault_refuses file f p e d

-- ---- one refusal

module _ (A : Type 0) (r : Run) (IsText : List ℕ → Type 0) (IsFault : Fault → Type 0) (Lacks : Type 0) where
  -- a file is not opened
  pub open_fails : (e : Refusal) → ((f : Fault) → IsFaultOf r.file f → IsFault f) → PutsNothing r → RefusesOpen r.honest r.file r.reads r.reads_after e → Answered {A = A} r IsText IsFault Lacks (Err e)
  open_fails (refusals.Fault f) i n w = (n, λ told. i f (w told))
  open_fails refusals.Memory i n w = n
  open_fails refusals.StoreFailed i n w = (w, λ told. inl n)
  open_fails refusals.StoreChanged i n w = w
  open_fails refusals.WriteFailed i n w = absurd w
  open_fails refusals.NoSuchTrack i n w = absurd w

  -- a file is not opened, or not of the track that is named, or not told how long its tracks wait
  pub told_fails : (track : Option ℕ) (b : Bool) (e : Refusal) → ((f : Fault) → judge_told track b r.file ≡ Err f → IsFault f) → (LacksNamed track r.honest r.file → Lacks) → PutsNothing r → RefusesTold track b r.honest r.file r.reads r.reads_after e → Answered {A = A} r IsText IsFault Lacks (Err e)
  told_fails track b (refusals.Fault f) i lacks n w = (n, λ told. i f (w told))
  told_fails track b refusals.Memory i lacks n w = n
  told_fails track b refusals.StoreFailed i lacks n w = (w, λ told. inl n)
  told_fails track b refusals.StoreChanged i lacks n w = w
  told_fails track b refusals.WriteFailed i lacks n w = absurd w
  told_fails track b refusals.NoSuchTrack i lacks n w = (n, lacks w)

  -- what its times are divided by is not found
  pub plan_fails : (e : Refusal) → PutsNothing r → RefusesPlan r.reads r.reads_after e → (Honest r → e ≡ refusals.StoreChanged → ⊥) → Answered {A = A} r IsText IsFault Lacks (Err e)
  plan_fails (refusals.Fault f) n w u = absurd w
  plan_fails refusals.Memory n w u = n
  plan_fails refusals.StoreFailed n w u = (w, λ told. inl n)
  plan_fails refusals.StoreChanged n w u = λ told. u told refl
  plan_fails refusals.WriteFailed n w u = absurd w
  plan_fails refusals.NoSuchTrack n w u = absurd w

  -- a put fails
  pub put_fails : (e : Refusal) → RefusesPut r.puts r.puts_after e → (Honest r → PutsFront r IsText) → Answered {A = A} r IsText IsFault Lacks (Err e)
  put_fails (refusals.Fault f) w p = absurd w
  put_fails refusals.Memory w p = absurd w
  put_fails refusals.StoreFailed w p = absurd w
  put_fails refusals.StoreChanged w p = absurd w
  put_fails refusals.WriteFailed w p = let e : r.puts_after ≡ count_after r.puts = w in (omega (arith, e), p)
  put_fails refusals.NoSuchTrack w p = absurd w

  -- bytes of the store are not carried to the sink
  pub carry_fails : (e : Refusal) → RefusesCarry r.reads r.reads_after r.puts r.puts_after e → (Honest r → PutsFront r IsText) → (Honest r → e ≡ refusals.StoreChanged → ⊥) → Answered {A = A} r IsText IsFault Lacks (Err e)
  carry_fails (refusals.Fault f) w p u = absurd w
  carry_fails refusals.Memory w p u = absurd w
  carry_fails refusals.StoreFailed w p u = (w, λ told. inr (p told))
  carry_fails refusals.StoreChanged w p u = λ told. u told refl
  carry_fails refusals.WriteFailed w p u = (w, p)
  carry_fails refusals.NoSuchTrack w p u = absurd w

  -- samples are not copied: also for want of memory, before anything is put
  pub copy_fails : (e : Refusal) → RefusesCopy r.took r.reads r.reads_after r.puts r.puts_after e → (Honest r → PutsFront r IsText)
      → (Honest r → e ≡ refusals.StoreChanged → ⊥) → Answered {A = A} r IsText IsFault Lacks (Err e)
  copy_fails refusals.Memory w p u = w
  copy_fails (refusals.Fault f) w p u = carry_fails (refusals.Fault f) w p u
  copy_fails refusals.StoreFailed w p u = carry_fails refusals.StoreFailed w p u
  copy_fails refusals.StoreChanged w p u = carry_fails refusals.StoreChanged w p u
  copy_fails refusals.WriteFailed w p u = carry_fails refusals.WriteFailed w p u
  copy_fails refusals.NoSuchTrack w p u = carry_fails refusals.NoSuchTrack w p u

  -- ---- an answer

  -- of samples that are copied
  pub copy_answers : (answer : Result A Refusal) → OnOk answer (r.reads_after ≡ r.reads) → OnOk answer (r.puts_after ≡ r.puts) → OnOk answer (Honest r → PutsAll r IsText)
      → IfErr answer (RefusesCopy r.took r.reads r.reads_after r.puts r.puts_after) → (Honest r → OnErr answer (PutsFront r IsText)) → (Honest r → IfErr answer (λ e. e ≡ refusals.StoreChanged → ⊥))
      → Answered r IsText IsFault Lacks answer
  copy_answers (Ok x) reads puts text w p u = ((reads, puts), text)
  copy_answers (Err e) reads puts text w p u = copy_fails e w p u

  -- of what is put at the end
  pub put_answers : (answer : Result A Refusal) → OnOk answer (r.reads_after ≡ r.reads) → OnOk answer (r.puts_after ≡ r.puts) → OnOk answer (Honest r → PutsAll r IsText) → IfErr answer (RefusesPut r.puts r.puts_after)
      → (Honest r → OnErr answer (PutsFront r IsText)) → Answered r IsText IsFault Lacks answer
  put_answers (Ok x) reads puts text w p = ((reads, puts), text)
  put_answers (Err e) reads puts text w p = put_fails e w p

-- before anything is put
pub at_once_nothing : (A : Type 0) (r : Run) (e : Refusal) → PutsNothing r → PutsAtOnce {A = A} r (Err e)
at_once_nothing A r (refusals.Fault f) n = tt
at_once_nothing A r refusals.Memory n = tt
at_once_nothing A r refusals.StoreFailed n = n
at_once_nothing A r refusals.StoreChanged n = n
at_once_nothing A r refusals.WriteFailed n = tt
at_once_nothing A r refusals.NoSuchTrack n = tt
