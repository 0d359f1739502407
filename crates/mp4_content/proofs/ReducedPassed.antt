-- What is left of samples that are passed.
use Rattle.std.proofs.Common.{◌≡◌, ℕ, zero, suc, ◌/◌, ◌%◌, ◌^◌, Bool, true, false, List, [], ◌∷◌, Some, refl, ap, sym, ◌∙◌, arith, if◌then◌else◌}
use Rattle.std.specs.Prelude.{◌&&◌, ◌||◌, ◌==◌, not, slice_get, ℤ, pos, ◌-ℤ◌}
use Rattle.std.proofs.lemmas.Bool.{eqb-true}
use Rattle.mp4_tables.specs.words.Next.{IsNext, PassesNonSync}
use Rattle.mp4_tables.specs.declared.sample.SampleAt.{SampleAt}
use Rattle.mp4_content.specs.format.Reduced.{duration_left, is_at_end, sync_flag}
use Rattle.mp4_content.specs.declared.reduced.Reduction.{Reduction}
use Rattle.mp4_content.specs.format.Timescales.{divided, sized}
use Rattle.mp4_content.specs.words.ComingLess.{cto_left, keeps_times, lasts_left, less, reduce_at}
use Rattle.mp4_content.proofs.ReducedTaken.{by_one, offset_by_one}
use Rattle.mp4_boxes.proofs.Plain.{not_is_false, or_is_false}

-- what is left of a sample has its duration, where timing and ends count and it isn't divided, and its size
pub next_reduced : (l : Reduction) (s : SampleAt) (samples : List SampleAt) → (l.leaving.timing || l.leaving.ends || not (l.divisor == 1)) ≡ false → IsNext s (less l samples) → IsNext s samples
next_reduced l s [] counts h = absurd (none h.first)
  where
    none : {x : SampleAt} → slice_get (less l []) 0 ≡ Some x → ⊥
    none e = cc
next_reduced l s (x ∷ samples) counts h =
    let more = or_is_false (l.leaving.timing || l.leaving.ends) (not (l.divisor == 1)) counts in
    let none = or_is_false l.leaving.timing l.leaving.ends more.0 in
    let once : l.divisor ≡ 1 = eqb-true l.divisor 1 (not_is_false (l.divisor == 1) more.1) in
    let stays : lasts_left l x.number x.duration ≡ x.duration =
    (λ i. if none.0 i || (none.1 i && is_at_end l.samples x.number) then duration_left l.leaving l.samples x.number x.duration else divided (once i) (if none.0 i then 1 else if none.1 i && is_at_end l.samples x.number then 1 else x.duration)) ∙ by_one x.duration in
    let same : reduce_at l x ≡ h.next = is (reduce_at l x) h.next h.first in
    record {
      next = x;
      first = refl;
      duration = sym stays ∙ ap (λ (y : SampleAt). y.duration) same ∙ h.duration;
      size = ap (λ (y : SampleAt). y.size) same ∙ h.size;
    }
  where
    is : (a b : SampleAt) → Some a ≡ Some b → a ≡ b
    is a b e = cc

bit_left : (b : Bool) (flags : ℕ) → flags / 2 ^ 16 % 2 ≡ 1 → (if b then sync_flag flags else flags) / 2 ^ 16 % 2 ≡ 1
bit_left true flags e = omega (arith, e)
bit_left false flags e = e

pub passes_reduced : (l : Reduction) (description n : ℕ) (samples left : List SampleAt) → PassesNonSync description n samples left → PassesNonSync description n (less l samples) (less l left)
passes_reduced l description zero samples left h = ap (less l) h
passes_reduced l description (suc n) [] left h = absurd h
passes_reduced l description (suc n) (s ∷ samples) left h = ((bit_left l.leaving.flags s.flags h.0.0, h.0.1), passes_reduced l description n samples left h.1)

-- ---- times that stay

none_moved : (a b c d : Bool) → (not a && not b && not c && d) ≡ true → (a ≡ false) × (b ≡ false) × (c ≡ false) × (d ≡ true)
none_moved true b c d h = absurd cc
none_moved false true c d h = absurd cc
none_moved false false true d h = absurd cc
none_moved false false false true h = (refl, refl, refl, refl)
none_moved false false false false h = absurd cc

module _ (r : Reduction) (keeps : keeps_times r ≡ true) where
  none : (r.leaving.ends ≡ false) × (r.leaving.origins ≡ false) × (r.leaving.timing ≡ false) × ((r.divisor == 1) ≡ true)
  none = none_moved r.leaving.ends r.leaving.origins r.leaving.timing (r.divisor == 1) keeps

  once : r.divisor ≡ 1
  once = eqb-true r.divisor 1 none.3

  pub duration_kept : (n duration : ℕ) → lasts_left r n duration ≡ duration
  duration_kept n duration =
      (λ i. if none.2 i || (none.0 i && is_at_end r.samples n) then duration_left r.leaving r.samples n duration else divided (once i) (if none.2 i then 1 else if none.0 i && is_at_end r.samples n then 1 else duration)) ∙ by_one duration

  pub offset_kept : (cto : ℤ) → cto_left r cto ≡ cto
  offset_kept cto = (λ i. sized (divided (once i)) (if none.2 i then pos 0 else if none.1 i then cto -ℤ r.offset else cto)) ∙ offset_by_one cto
