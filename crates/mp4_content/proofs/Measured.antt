-- What is left of all samples of a track together, as it is measured in a walk.
use Rattle.std.proofs.Common.{◌≡◌, ℕ, suc, ◌+◌, ◌-◌, ◌^◌, ◌<◌, ◌≤◌, min, true, List, [], ◌∷◌, sym, ap, subst, ◌∙◌, arith, rules}
use Rattle.std.specs.Prelude.{◌&&◌, nat_lt, ℤ, pos, negsuc, FitsSigned}
use Rattle.std.specs.Int.{w32}
use Rattle.std.specs.List.{AllByRecursion}
use Rattle.mp4_tables.specs.format.Groups.{GroupKey}
use Rattle.mp4_tables.specs.declared.sample.SampleAt.{SampleAt}
use Rattle.mp4_present.specs.format.Presentation.{Sample, total_duration}
use Rattle.mp4_content.specs.words.ComingLess.{cto_left, lasts_left}
use Rattle.mp4_content.specs.format.TimedSamples.{timed_from}
use Rattle.mp4_content.specs.words.Measuring.{is_near, measured_with, total_from, total_with}
use Rattle.mp4_content.specs.words.TakenSamples.{AreTaken}
use Rattle.mp4_present.specs.words.Folding.{Through}
use Rattle.mp4_content.specs.declared.measures.Measuring.{Measuring}
use Rattle.mp4_content.specs.declared.measures.Total.{Total}
use Rattle.mp4_content.specs.declared.reduced.Reduction.{Reduction}
use Rattle.mp4_content.proofs.ReducedTaken.{AreNumbered, remaining_from}
use Rattle.mp4_boxes.proofs.Plain.{and_is_true}

-- ---- an offset that fits

below : (n : ℕ) → nat_lt n (2 ^ 31) ≡ true → n < 2 ^ 31
below n e = search rules

not_below : (n : ℕ) → n < 2 ^ 31 → nat_lt n (2 ^ 31) ≡ true
not_below n lt = search rules

pub near_fits : (z : ℤ) → is_near z ≡ true → FitsSigned w32 z
near_fits (pos n) e = let lt = below n e in omega (arith, lt)
near_fits (negsuc n) e = let lt = below n e in omega (arith, lt)

pub fits_near : (z : ℤ) → FitsSigned w32 z → is_near z ≡ true
fits_near (pos n) h = not_below n (omega (arith, h))
fits_near (negsuc n) h = not_below n (omega (arith, h))

-- ---- samples

-- added in a walk
pub all_measured : (m n : Measuring) (samples : List SampleAt) → Through (λ (m : Measuring) s n. n ≡ measured_with m s) m samples n → n.total ≡ total_from m.reduction m.total samples
all_measured m n [] h = ap (λ (x : Measuring). x.total) h
all_measured m n (s ∷ samples) h = all_measured h.0 n samples h.1.1 ∙ ap (λ (x : Measuring). total_from x.reduction x.total samples) h.1.0

module _ (r : Reduction) (file : List ℕ) (keys : List GroupKey) where
  pub total_lasts : (total : Total) (number time place : ℕ) (taken : List SampleAt) (samples : List Sample) → total.duration ≤ 2 ^ 64 - 1 → AreNumbered place taken → AreTaken file keys taken (timed_from number time samples)
      → (total_from r total taken).duration ≡ min (total.duration + total_duration (remaining_from r.leaving r.divisor r.samples r.offset place samples)) (2 ^ 64 - 1)
  total_lasts total number time place [] [] le n h = omega (arith, le)
  total_lasts total number time place [] (s ∷ samples) le n h = absurd h
  total_lasts total number time place (a ∷ taken) [] le n h = absurd h
  total_lasts total number time place (a ∷ taken) (s ∷ samples) le n h =
      let next : place + 1 ≡ suc place = omega arith in
      let d : lasts_left r a.number a.duration ≡ lasts_left r place s.duration = λ i. lasts_left r (n.0 i) (h.0.duration i) in
      let more = total_lasts (total_with r total a) (number + 1) (time + s.duration) (suc place) taken samples (omega arith) (subst (λ k. AreNumbered k taken) next n.1) h.1 in
      omega (arith, le, d, more)

  abbrev AreNear : List Sample → Type 0
  AreNear samples = AllByRecursion (λ (s : Sample). FitsSigned w32 (cto_left r s.offset)) samples

  pub total_near : (total : Total) (number time : ℕ) (taken : List SampleAt) (samples : List Sample) → AreTaken file keys taken (timed_from number time samples) → (total_from r total taken).is_near ≡ true → (total.is_near ≡ true) × AreNear samples
  total_near total number time [] [] h e = (e, tt)
  total_near total number time [] (s ∷ samples) h e = absurd h
  total_near total number time (a ∷ taken) [] h e = absurd h
  total_near total number time (a ∷ taken) (s ∷ samples) h e =
      let more = total_near (total_with r total a) (number + 1) (time + s.duration) taken samples h.1 e in
      let here = and_is_true total.is_near (is_near (cto_left r a.cto)) more.0 in
      (here.0, (subst (λ (z : ℤ). FitsSigned w32 (cto_left r z)) h.0.offset (near_fits (cto_left r a.cto) here.1), more.1))

  pub near_total : (total : Total) (number time : ℕ) (taken : List SampleAt) (samples : List Sample) → AreTaken file keys taken (timed_from number time samples) → total.is_near ≡ true → AreNear samples → (total_from r total taken).is_near ≡ true
  near_total total number time [] [] h e near = e
  near_total total number time [] (s ∷ samples) h e near = absurd h
  near_total total number time (a ∷ taken) [] h e near = absurd h
  near_total total number time (a ∷ taken) (s ∷ samples) h e near =
      let here = fits_near (cto_left r a.cto) (subst (λ (z : ℤ). FitsSigned w32 (cto_left r z)) (sym h.0.offset) near.0) in
      near_total (total_with r total a) (number + 1) (time + s.duration) taken samples h.1 (λ i. e i && here i) near.1
