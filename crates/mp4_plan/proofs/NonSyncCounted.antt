-- Samples that are no sync samples, passed and counted: of a walk, of what is left of its samples, and of the first of them.
use Rattle.std.proofs.Common.{◌≡◌, ℕ, zero, suc, ◌+◌, ◌-◌, ◌/◌, ◌%◌, ◌^◌, ◌≤◌, ◌==◌, true, false, cond, List, [], ◌∷◌, take, Some, refl, ap, sym, subst, ◌∙◌, arith}
use Rattle.std.specs.Prelude.{slice_get}
use Rattle.std.specs.List.{prefix_len}
use Rattle.std.proofs.lemmas.Bool.Decides.{nat_tests}
use Rattle.mp4_tables.specs.words.Next.{IsNext, IsNonSyncOf, PassesNonSync}
use Rattle.mp4_tables.specs.declared.sample.SampleAt.{SampleAt}
use Rattle.mp4_plan.specs.words.Counting.{CountsFirst}
use Rattle.mp4_plan.specs.words.Ends.{goes_in, is_sync_at}
use Rattle.mp4_plan.specs.words.HandsFed.{TakesFirst}
use Rattle.mp4_plan.specs.declared.ends.End.TheVariants.{Sync}

-- ---- the next one

pub next_limited : (room : ℕ) (s : SampleAt) (samples : List SampleAt) → IsNext s (take room samples) → IsNext s samples
next_limited zero s samples h = absurd (none h.first)
  where
    none : {x : SampleAt} → slice_get (take 0 samples) 0 ≡ Some x → ⊥
    none e = cc
next_limited (suc room) s [] h = absurd (none h.first)
  where
    none : {x : SampleAt} → slice_get (take (suc room) []) 0 ≡ Some x → ⊥
    none e = cc
next_limited (suc room) s (x ∷ samples) h = record { next = h.next; first = h.first; duration = h.duration; size = h.size }

-- the sample that was looked at
pub next_seen : (s : SampleAt) (samples : List SampleAt) → Some s ≡ slice_get samples 0 → IsNext s samples
next_seen s samples e = record { next = s; first = sym e; duration = refl; size = refl }

-- ---- several

pub passes_limited : (room description n : ℕ) (samples left : List SampleAt) → n ≤ room → PassesNonSync description n samples left → PassesNonSync description n (take room samples) (take (room - n) left)
passes_limited room description zero samples left le h =
    let all : room - 0 ≡ room = omega arith in
    ap (λ k. take k left) all ∙ ap (take room) h
passes_limited zero description (suc n) samples left le h = absurd (omega (arith, le))
passes_limited (suc room) description (suc n) [] left le h = absurd h
passes_limited (suc room) description (suc n) (s ∷ samples) left le h =
    let less : room - n ≡ suc room - suc n = omega arith in
    (h.0, subst (λ k. PassesNonSync description n (take room samples) (take k left)) less (passes_limited room description n samples left (omega (arith, le)) h.1))

-- as much less room is left
pub takes_some : (room description n : ℕ) (samples left : List SampleAt) → n ≤ room → PassesNonSync description n samples left → TakesFirst room (room - n) samples left
takes_some room description zero samples left le h = record { taken = []; less = omega arith; whole = sym h }
takes_some room description (suc n) [] left le h = absurd h
takes_some room description (suc n) (s ∷ samples) left le h =
    let more = takes_some (room - 1) description n samples left (omega (arith, le)) h.1 in
    let fewer = more.less in
    record { taken = s ∷ more.taken; less = omega (arith, fewer, le); whole = ap (λ (l : List SampleAt). s ∷ l) more.whole }

-- ---- counted

goes_on : (from scale description : ℕ) (s : SampleAt) → IsNonSyncOf description s → goes_in (Sync from scale) description s ≡ true
goes_on from scale description s h =
    let other : is_sync_at s ≡ false = no_sync (s.flags / 2 ^ 16 % 2) h.0 in
    let own : (s.description == description) ≡ true = same s.description description h.1 in
    rw (other, own) refl
  where
    no_sync : (n : ℕ) → n ≡ 1 → (n == 0) ≡ false
    no_sync n e = grind (arith, nat_tests, e)

    same : (a b : ℕ) → a ≡ b → (a == b) ≡ true
    same a b e = grind (arith, nat_tests, e)

-- no sync sample ends a piece of the first track
pub counts_non_sync : (from scale description n : ℕ) (samples left : List SampleAt) → PassesNonSync description n samples left → CountsFirst (goes_in (Sync from scale) description) n samples left
counts_non_sync from scale description zero samples left h =
    let same = ap (prefix_len (goes_in (Sync from scale) description)) h in
    record { few = omega arith; same = omega (arith, same); rest = h }
counts_non_sync from scale description (suc n) [] left h = absurd h
counts_non_sync from scale description (suc n) (s ∷ samples) left h =
    let test = goes_in (Sync from scale) description in
    let more = counts_non_sync from scale description n samples left h.1 in
    let few = more.few in
    let same = more.same in
    let one : prefix_len test (s ∷ samples) ≡ 1 + prefix_len test samples = ap (λ b. cond b (1 + prefix_len test samples) 0) (goes_on from scale description s h.0) in
    record { few = omega (arith, few); same = omega (arith, one, same); rest = more.rest }
