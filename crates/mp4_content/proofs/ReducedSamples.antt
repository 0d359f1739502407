-- What is left of the samples of a track, by recursion on them: how many there are, and what holds of each.
use Rattle.std.proofs.Common.{◌≡◌, ℕ, suc, Bool, true, false, if◌then◌else◌, List, [], ◌∷◌, length, refl, ap, arith}
use Rattle.std.specs.Prelude.{◌&&◌, ℤ}
use Rattle.std.specs.List.{AllByRecursion}
use Rattle.mp4_present.specs.format.Presentation.{Sample, total_duration}
use Rattle.mp4_content.specs.format.Reduced.{is_at_end, duration_left, reduce_sample, reduce_from}
use Rattle.mp4_content.specs.declared.without.Without.{Without}

-- what holds of both, whichever it is
pub by_case : {A : Type 0} (P : A → Type 0) (b : Bool) (x y : A) → P x → P y → P (if b then x else y)
by_case P true x y h k = h
by_case P false x y h k = k

module _ (l : Without) (count : ℕ) (first : ℤ) where
  pub left_many : (n : ℕ) (samples : List Sample) → length (reduce_from l count first n samples) ≡ length samples
  left_many n [] = refl
  left_many n (s ∷ samples) = let rest = left_many (suc n) samples in omega (arith, rest)

  pub left_none : (n : ℕ) (samples : List Sample) → reduce_from l count first n samples ≡ [] → samples ≡ []
  left_none n [] e = refl
  left_none n (s ∷ samples) e = absurd cc

  -- what follows from a fact holds of what is left of each
  pub each_left : (P Q : Sample → Type 0) → ((n : ℕ) (s : Sample) → P s → Q (reduce_sample l count first n s)) → (n : ℕ) (samples : List Sample) → AllByRecursion P samples → AllByRecursion Q (reduce_from l count first n samples)
  each_left P Q one n [] h = tt
  each_left P Q one n (s ∷ samples) h = (one n s h.0, each_left P Q one (suc n) samples h.1)

  -- ---- durations

  pub duration_stays : l.timing ≡ false → l.ends ≡ false → (n duration : ℕ) → duration_left l count n duration ≡ duration
  duration_stays counts ends n duration = by l.timing l.ends counts ends
    where
      by : (a b : Bool) → a ≡ false → b ≡ false → (if a then 1 else if b && is_at_end count n then 1 else duration) ≡ duration
      by true b e f = absurd cc
      by false true e f = absurd cc
      by false false e f = refl

  pub durations_stay : l.timing ≡ false → l.ends ≡ false → (n : ℕ) (samples : List Sample) → total_duration (reduce_from l count first n samples) ≡ total_duration samples
  durations_stay counts ends n [] = refl
  durations_stay counts ends n (s ∷ samples) =
      let one = duration_stays counts ends n s.duration in
      let rest = durations_stay counts ends (suc n) samples in
      omega (arith, one, rest)

  pub durations_count : l.timing ≡ true → (n : ℕ) (samples : List Sample) → total_duration (reduce_from l count first n samples) ≡ length samples
  durations_count e n [] = refl
  durations_count e n (s ∷ samples) =
      let one : duration_left l count n s.duration ≡ 1 = ap (λ (b : Bool). if b then 1 else if l.ends && is_at_end count n then 1 else s.duration) e in
      let rest = durations_count e (suc n) samples in
      omega (arith, one, rest)
