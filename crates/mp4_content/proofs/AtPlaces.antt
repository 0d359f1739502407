-- What stands at a place of a list.
use Rattle.std.proofs.Common.{◌≡◌, ℕ, zero, suc, ◌+◌, List, [], ◌∷◌, ◌++◌, take, Some, sym, ap, subst, ◌∙◌, arith}
use Rattle.std.specs.Prelude.{slice_get, slice_index_or}

-- what stands at a place is what was read there
pub read_at : {A : Type 0} (xs : List A) (k : ℕ) (x y : A) → slice_get xs k ≡ Some x → y ≡ slice_index_or xs k y → y ≡ x
read_at [] k x y is e = absurd cc
read_at (z ∷ xs) zero x y is e = let same : z ≡ x = cc in e ∙ same
read_at (z ∷ xs) (suc k) x y is e = read_at xs k x y is e

-- one thing stands at a place
pub one_there : {A : Type 0} (xs : List A) (k : ℕ) (x y : A) → slice_get xs k ≡ Some y → slice_get xs k ≡ Some x → y ≡ x
one_there xs k x y a b = by (sym a ∙ b)
  where
    by : Some y ≡ Some x → y ≡ x
    by e = cc

-- what is so of what is read there is so of what stands there
pub at_place : {A : Type 0} (P : A → Type 0) (xs : List A) (k : ℕ) (x other : A) → slice_get xs k ≡ Some x → P (slice_index_or xs k other) → P x
at_place P [] k x other is p = absurd cc
at_place P (z ∷ xs) zero x other is p = let same : z ≡ x = cc in subst P same p
at_place P (z ∷ xs) (suc k) x other is p = at_place P xs k x other is p

pub taken_next : {A : Type 0} (xs : List A) (k : ℕ) (x : A) → slice_get xs k ≡ Some x → take (k + 1) xs ≡ take k xs ++ x ∷ []
taken_next {A} xs k x is = let one : k + 1 ≡ suc k = omega arith in ap (λ n. take n xs) one ∙ by xs k is
  where
    by : (ys : List A) (k : ℕ) → slice_get ys k ≡ Some x → take (suc k) ys ≡ take k ys ++ x ∷ []
    by [] k e = absurd cc
    by (y ∷ ys) zero e = let same : y ≡ x = cc in ap (λ z. z ∷ []) same
    by (y ∷ ys) (suc k) e = ap (λ zs. y ∷ zs) (by ys k e)
