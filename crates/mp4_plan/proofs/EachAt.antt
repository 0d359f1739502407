-- What holds of each of a list, at one place.
use Rattle.std.proofs.Common.{ℕ, List, [], ◌∷◌, ◌++◌, slice_set, zero, suc}
use Rattle.std.specs.List.{AllByRecursion}

-- it holds of each with another one in a place
pub holds_with : {A : Type 0} (P : A → Type 0) (xs : List A) (k : ℕ) (x : A) → P x → AllByRecursion P xs → AllByRecursion P (slice_set xs k x)
holds_with P [] k x p h = tt
holds_with P (y ∷ ys) zero x p h = (p, h.1)
holds_with P (y ∷ ys) (suc k) x p h = (h.0, holds_with P ys k x p h.1)

pub holds_push : {A : Type 0} (P : A → Type 0) (xs : List A) (x : A) → P x → AllByRecursion P xs → AllByRecursion P (xs ++ x ∷ [])
holds_push P [] x p h = (p, tt)
holds_push P (y ∷ ys) x p h = (h.0, holds_push P ys x p h.1)
