-- Laws of how the samples of two tracks lie beside each other.
use Rattle.std.proofs.Common.{◌≡◌, ℕ, ◌+◌, List, [], ◌∷◌, ◌++◌, drop, Option, Some, None, refl, sym, ap, subst, ◌∙◌, arith}
use Rattle.std.proofs.lemmas.List.{length-drop}
use Rattle.mp4_present.specs.format.Presentation.{Sample, Track}
use Rattle.mp4_content.specs.format.Alignment.{IsAlignment, IsEnd, IsFront, IsPairAligned, between, if_there}
use Rattle.mp4_content.specs.format.AlignmentLaws.{AlignmentIsOne, FrontAndEndFit, NothingBesideItself, NothingIsSame}
use Rattle.mp4_content.specs.format.Remaining.{remaining_samples, track_divisor}
use Rattle.mp4_content.specs.declared.aligning.Alignment.{Alignment}
use Rattle.mp4_content.specs.declared.without.Without.{Without}
use Rattle.mp4_content.proofs.SamplesReduced.{divided_length}

pub nothing_is_same : NothingIsSame
nothing_is_same l number t u None h = (λ e. h, λ e. refl)
nothing_is_same l number t u (Some a) h = (λ e. cc, λ e. absurd (h.0 e))

pub front_and_end_fit : FrontAndEndFit
front_and_end_fit l number t u a h =
    let f = h.1.is_front.within in
    let e = h.1.is_end.within in
    let front = f.0 in
    let front_right = f.1 in
    let end = e.0 in
    let end_right = e.1 in
    let many = divided_length l (track_divisor l t) t in
    let many_right = divided_length l (track_divisor l u) u in
    let left = length-drop a.front (remaining_samples l t) in
    let right = length-drop a.front (remaining_samples l u) in
    (omega (arith, front, end, many, left), omega (arith, front_right, end_right, many_right, right))

-- ---- one answer

fronts_meet : (xs ys : List Sample) (m n : ℕ) → IsFront xs ys m → IsFront xs ys n → m ≡ n
fronts_meet xs ys m n h k =
    let few = k.longest m h.within h.same in
    let many = h.longest n k.within k.same in
    omega (arith, few, many)

ends_meet : (xs ys : List Sample) (m n : ℕ) → IsEnd xs ys m → IsEnd xs ys n → m ≡ n
ends_meet xs ys m n h k =
    let few = k.longest m h.within h.same in
    let many = h.longest n k.within k.same in
    omega (arith, few, many)

module _ (l : Without) (number : ℕ) (t u : Track) where
  one_alignment : (a b : Alignment) → IsAlignment number t u (remaining_samples l t) (remaining_samples l u) a → IsAlignment number t u (remaining_samples l t) (remaining_samples l u) b → a ≡ b
  one_alignment a b h k =
      let front = fronts_meet _ _ a.front b.front h.is_front k.is_front in
      let other_end = subst (λ (n : ℕ). IsEnd (drop n (remaining_samples l t)) (drop n (remaining_samples l u)) b.end) (sym front) k.is_end in
      let end = ends_meet _ _ a.end b.end h.is_end other_end in
      let track = h.track ∙ sym k.track in
      let left = h.left ∙ (λ i. between (front i) (end i) t) ∙ sym k.left in
      let right = h.right ∙ (λ i. between (front i) (end i) u) ∙ sym k.right in
      λ i. record { track = track i; front = front i; end = end i; left = left i; right = right i }

  one_pair : (x y : Option Alignment) → IsPairAligned l number t u x → IsPairAligned l number t u y → x ≡ y
  one_pair None None h k = refl
  one_pair None (Some b) h k = absurd (k.0 h)
  one_pair (Some a) None h k = absurd (h.0 k)
  one_pair (Some a) (Some b) h k = ap (λ (z : Alignment). Some z) (one_alignment a b h.1 k.1)

pub alignment_is_one : AlignmentIsOne
alignment_is_one l number [] us found other h k = h ∙ sym k
alignment_is_one l number (t ∷ ts) [] found other h k = h ∙ sym k
alignment_is_one l number (t ∷ ts) (u ∷ us) found other h k =
    let first = one_pair l number t u h.0 k.0 h.2 k.2 in
    let more = alignment_is_one l (number + 1) ts us h.1 k.1 h.3 k.3 in
    h.4 ∙ (λ i. if_there (first i) ++ more i) ∙ sym k.4

-- ---- beside itself

none_beside : (l : Without) (number : ℕ) (t : Track) (x : Option Alignment) → IsPairAligned l number t t x → x ≡ None
none_beside l number t None h = refl
none_beside l number t (Some a) h = absurd (h.0 refl)

pub nothing_beside_itself : NothingBesideItself
nothing_beside_itself l number [] found h = h
nothing_beside_itself l number (t ∷ ts) found h =
    let first = none_beside l number t h.0 h.2 in
    let more = nothing_beside_itself l (number + 1) ts h.1 h.3 in
    h.4 ∙ (λ i. if_there (first i) ++ more i)
