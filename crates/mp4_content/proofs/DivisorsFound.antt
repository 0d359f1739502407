-- The greatest common divisor of times, found one after the other.
use Rattle.std.proofs.Common.{◌≡◌, ℕ, ◌+◌, ◌<◌, true, false, if◌then◌else◌, List, [], ◌∷◌, ◌++◌, map, length, drop, slice_index_or, refl, sym, ap, ◌∙◌, ℤ, unsigned_abs}
use Rattle.std.specs.Prelude.{flat_map}
use Rattle.std.specs.Int.{IsGcd}
use Rattle.std.proofs.lemmas.Nat.Gcd.{dvd_trans, dvd-zero, dvd_refl, same_from_IsGcd}
use Rattle.std.proofs.Math.Nat.{one-dvd}
use Rattle.mp4_content.specs.format.Timescales.{common_divisor, divisor_of}
use Rattle.mp4_head.specs.format.Head.{Edit, TrackHead}
use Rattle.mp4_content.specs.declared.without.Without.{Without}
use Rattle.mp4_content.specs.words.Scales.{divisor_from, edits_left, segments_of}
use Rattle.mp4_content.proofs.Differing.{drop_at}
use Rattle.mp4_content.proofs.TimescalesDivisors.{is_divisor}

-- ---- of two numbers

pub divisor_is : (a b g : ℕ) → IsGcd a b g → g ≡ common_divisor a b
divisor_is a b g h = same_from_IsGcd a b g (common_divisor a b) h (is_divisor a b)

divisor_joins : (a b c : ℕ) → IsGcd b (common_divisor a c) (common_divisor (common_divisor a b) c)
divisor_joins a b c =
    let ab = is_divisor a b in
    let ac = is_divisor a c in
    let all = is_divisor (common_divisor a b) c in
    let d = common_divisor (common_divisor a b) c in (
      dvd_trans d all.0 ab.1,
      ac.2 d (dvd_trans d all.0 ab.0) all.1,
      λ e p q. all.2 e (ab.2 e (dvd_trans e q ac.0) p) (dvd_trans e q ac.1),
    )

-- of three numbers in any order
pub divisor_moved : (a b c : ℕ) → common_divisor (common_divisor a b) c ≡ common_divisor b (common_divisor a c)
divisor_moved a b c = divisor_is b (common_divisor a c) (common_divisor (common_divisor a b) c) (divisor_joins a b c)

pub of_none : (b : ℕ) → common_divisor 0 b ≡ b
of_none b = sym (divisor_is 0 b b (dvd-zero b, dvd_refl b, λ d p q. q))

-- ---- of many

-- times that are found from the first on have the same divisor
pub from_is : (g : ℕ) (times : List ℤ) → divisor_from g times ≡ common_divisor g (divisor_of times)
from_is g [] = refl
from_is g (x ∷ times) = from_is (common_divisor (unsigned_abs x) g) times ∙ divisor_moved (unsigned_abs x) g (divisor_of times)

pub from_none : (times : List ℤ) → divisor_from 0 times ≡ divisor_of times
from_none times = from_is 0 times ∙ of_none (divisor_of times)

pub from_append : (g : ℕ) (xs ys : List ℤ) → divisor_from g (xs ++ ys) ≡ divisor_from (divisor_from g xs) ys
from_append g [] ys = refl
from_append g (x ∷ xs) ys = from_append (common_divisor (unsigned_abs x) g) xs ys

-- 1 stays 1
pub one_stays : (times : List ℤ) → divisor_from 1 times ≡ 1
one_stays times = from_is 1 times ∙ sym (divisor_is 1 (divisor_of times) 1 (dvd_refl 1, one-dvd (divisor_of times), λ d p q. p))

-- ---- in a loop

-- one more of what has many times
module _ {A B : Type 0} (f : B → List ℤ) (seen : A → B) (xs : List A) (k : ℕ) where
  abbrev all_behind : ℕ → List ℤ
  all_behind k = flat_map f (map seen (drop k xs))

  pub many_more : (g next : ℕ) (x : A) → k < length xs → x ≡ slice_index_or xs k x → next ≡ divisor_from g (f (seen x)) → divisor_from next (all_behind (k + 1)) ≡ divisor_from g (all_behind k)
  many_more g next x lt e is =
      (λ i. divisor_from (is i) (all_behind (k + 1))) ∙ sym (from_append g (f (seen x)) (all_behind (k + 1)))
      ∙ sym (ap (λ (ys : List A). divisor_from g (flat_map f (map seen ys))) (drop_at xs k x lt e))

-- ---- edits that are left

pub edits_stay : (l : Without) (edits : List Edit) → l.edits ≡ false → edits_left l edits ≡ edits
edits_stay l edits e = λ i. if e i then [] else edits

pub no_segments : (l : Without) (heads : List TrackHead) → l.edits ≡ true → flat_map (λ (t : TrackHead). segments_of (edits_left l t.edits)) heads ≡ []
no_segments l [] e = refl
no_segments l (t ∷ heads) e = (λ i. segments_of (if e i then [] else t.edits) ++ flat_map (λ (t : TrackHead). segments_of (edits_left l t.edits)) heads) ∙ no_segments l heads e
