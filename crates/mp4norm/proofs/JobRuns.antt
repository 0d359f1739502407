-- What a run of a job comes to, from what its parts do.
use Rattle.std.proofs.Common.{◌≡◌, ◌∙◌, ◌⊎◌, inl, inr, refl, ℕ, List, [], ◌++◌, sym, subst}
use Rattle.std.specs.Prelude.{Bool, IsTrue, Option, None, Some, Result, Ok, Err, OnOk, OnErr, IsErrAnd}
use Rattle.std.proofs.lemmas.List.{append-nil}
use Rattle.mp4_boxes.specs.declared.refusal.Refusal.{Refusal}
use Rattle.mp4_store.specs.declared.store.Store.{Ghosts as Store}
use Rattle.mp4_store.specs.words.Device.{TakesPrefix}
use Rattle.mp4_store.proofs.Known.{IsJoining, TakesPrefix-then, TakesPrefix-whole}
use Rattle.mp4_content.specs.declared.without.Without.{Without}
use Rattle.mp4_answers.specs.declared.jobs.Job.{Job}
use Rattle.mp4_answers.specs.declared.jobs.Job.TheVariants as jobs
use Rattle.mp4_answers.specs.words.WholePut.{PutsWhole, JobPutsWhole}
use Rattle.mp4norm.specs.format.Runs.{FitsIn, HasChanged, IsLonger, IsMeasured, IsNoLonger, IsSettled, IsTooLong, RefusesLength, RefusesOpening, RefusesOutlet}

pub on_any : {T E P : Type 0} (r : Result T E) → P → OnOk r P
on_any (Ok x) p = p
on_any (Err e) p = tt

pub fits : (most len : Option ℕ) (job : Job) (file : List ℕ) → IsMeasured most job file len → IsNoLonger len most → FitsIn most job file
fits None len job file h le = tt
fits (Some most) None job file h le = absurd h
fits (Some most) (Some n) job file h le = (n, h, le)

too_long : (most len : Option ℕ) (job : Job) (file : List ℕ) → IsMeasured most job file len → IsLonger len most → IsTooLong most job file
too_long None None job file h gt = absurd gt
too_long None (Some n) job file h gt = absurd gt
too_long (Some most) None job file h gt = absurd h
too_long (Some most) (Some n) job file h gt = (n, h, gt)

-- what is written can't be opened for a text of this length, which was measured
pub not_opened : {X : Type 0} (S : Store X) (store : X) (most len : Option ℕ) (job : Job) (may_fail : Bool) (e : Refusal) → (IsTrue (S.is_honest store) → IsMeasured most job (S.file store) len) → RefusesOpening len most may_fail e → RefusesOutlet may_fail e ⊎ RefusesLength S most job store e
not_opened S store most len job may_fail e measured (inl r) = inl r
not_opened S store most len job may_fail e measured (inr (is, gt)) = inr (is, λ honest. too_long most len job (S.file store) (measured honest) gt)

-- an answer stands that is Ok
pub settled_ok : {A P : Type 0} (may_change : Bool) (answer result : Result A Refusal) (x : A) → IsSettled may_change answer result → result ≡ Ok x → OnOk answer P → P
settled_ok {A = A} {P = P} may_change answer result x (inl e) is p = subst (λ (r : Result A Refusal). OnOk r P) (sym e ∙ is) p
settled_ok {A = A} may_change answer result x (inr f) is p = absurd (subst (λ (r : Result A Refusal). IsErrAnd r (HasChanged may_change)) is f)

-- ---- what was put between the opening and the closing was put

puts_on : (l : Without) (Took More : List ℕ → Type 0) → ((text : List ℕ) → Took text → More text) → PutsWhole l Took → PutsWhole l More
puts_on l Took More on p = record {
  movie = p.movie;
  head = p.head;
  left = p.left;
  whole = record {
    pieces = p.whole.pieces;
    counts = p.whole.counts;
    sizes = p.whole.sizes;
    text = p.whole.text;
    are = p.whole.are;
    put = on _ p.whole.put;
  };
}

pub job_puts_on : (job : Job) (Took More : List ℕ → Type 0) → ((text : List ℕ) → Took text → More text) → JobPutsWhole job Took → JobPutsWhole job More
job_puts_on (jobs.Boxes syntax) Took More on p = tt
job_puts_on (jobs.Fields syntax most) Took More on p = tt
job_puts_on jobs.Show Took More on p = tt
job_puts_on (jobs.Samples track form) Took More on p = tt
job_puts_on (jobs.Extract track) Took More on p = tt
job_puts_on jobs.Normalise Took More on p = puts_on _ Took More on p
job_puts_on (jobs.Reduce s) Took More on p = puts_on s.leaving Took More on p
job_puts_on (jobs.Print s) Took More on p = tt
job_puts_on (jobs.Strip names) Took More on p = tt

pub between : {Y : Type 0} {takes : Y → Y → List ℕ → Type 0} (joins : IsJoining takes) (a b c d : Y) → takes a b [] → takes c d [] → (text : List ℕ) → takes b c text → takes a d text
between {takes = takes} joins a b c d first last text t = subst (λ (xs : List ℕ). takes a d xs) (append-nil text) (joins a c d text [] (joins a b c [] text first t) last)

-- ---- one piece behind another

pub put_behind : {Y : Type 0} {takes : Y → Y → List ℕ → Type 0} (joins : IsJoining takes) (a b c : Y) (xs ys : List ℕ) {T E : Type 0} (r : Result T E) → takes a b xs → OnOk r (takes b c ys) → OnErr r (TakesPrefix (takes b c) ys) → TakesPrefix (takes a c) (xs ++ ys)
put_behind {takes = takes} joins a b c xs ys (Ok x) p q f = TakesPrefix-then joins a b c xs ys (xs ++ ys) p (TakesPrefix-whole (takes b c) ys q) refl
put_behind joins a b c xs ys (Err e) p q f = TakesPrefix-then joins a b c xs ys (xs ++ ys) p f refl

-- and that whole
pub put_whole : {Y : Type 0} {takes : Y → Y → List ℕ → Type 0} (joins : IsJoining takes) (a b c : Y) (xs ys : List ℕ) {T E : Type 0} (r : Result T E) → takes a b xs → OnOk r (takes b c ys) → OnOk r (takes a c (xs ++ ys))
put_whole joins a b c xs ys (Ok x) p q = joins a b c xs ys p q
put_whole joins a b c xs ys (Err e) p q = tt
