-- What stands at a place among some, or all of them.
use Rattle.std.proofs.Common.{◌≡◌, ℕ, zero, suc, ◌≤◌, List, [], ◌∷◌, map, Option, None, Some, refl, arith}
use Rattle.std.specs.List.{AllByRecursion, AllZip}
use Rattle.mp4_boxes.specs.format.Bytes.{sum_of}
use Rattle.mp4_present.specs.words.OneTrack.{at_place, shown_at}

map_at : {A B : Type 0} (f : A → B) (k : ℕ) (xs : List A) → map f (at_place k xs) ≡ at_place k (map f xs)
map_at f zero [] = refl
map_at f (suc k) [] = refl
map_at f zero (x ∷ xs) = refl
map_at f (suc k) (x ∷ xs) = map_at f k xs

pub map_shown : {A B : Type 0} (f : A → B) (only : Option ℕ) (xs : List A) → map f (shown_at only xs) ≡ shown_at only (map f xs)
map_shown f None xs = refl
map_shown f (Some k) xs = map_at f k xs

pub all_at_place : {A : Type 0} (P : A → Type 0) (k : ℕ) (xs : List A) → AllByRecursion P xs → AllByRecursion P (at_place k xs)
all_at_place P zero [] h = tt
all_at_place P (suc k) [] h = tt
all_at_place P zero (x ∷ xs) h = (h.0, tt)
all_at_place P (suc k) (x ∷ xs) h = all_at_place P k xs h.1

pub all_shown : {A : Type 0} (P : A → Type 0) (only : Option ℕ) (xs : List A) → AllByRecursion P xs → AllByRecursion P (shown_at only xs)
all_shown P None xs h = h
all_shown P (Some k) xs h = all_at_place P k xs h

pub zip_at_place : {A B : Type 0} (P : A → B → Type 0) (k : ℕ) (xs : List A) (ys : List B) → AllZip P xs ys → AllZip P (at_place k xs) (at_place k ys)
zip_at_place P zero [] [] z = tt
zip_at_place P (suc k) [] [] z = tt
zip_at_place P k [] (y ∷ ys) z = absurd z
zip_at_place P k (x ∷ xs) [] z = absurd z
zip_at_place P zero (x ∷ xs) (y ∷ ys) z = (z.0, tt)
zip_at_place P (suc k) (x ∷ xs) (y ∷ ys) z = zip_at_place P k xs ys z.1

pub sum_at_place : {A : Type 0} (f : A → ℕ) (k : ℕ) (xs : List A) → sum_of f (at_place k xs) ≤ sum_of f xs
sum_at_place f zero [] = omega arith
sum_at_place f (suc k) [] = omega arith
sum_at_place f zero (x ∷ xs) = omega arith
sum_at_place f (suc k) (x ∷ xs) = omega (arith, sum_at_place f k xs)

-- what is so of each two stays so
pub zip_weaker : {A B : Type 0} (P Q : A → B → Type 0) → ((x : A) (y : B) → P x y → Q x y) → (xs : List A) (ys : List B) → AllZip P xs ys → AllZip Q xs ys
zip_weaker P Q f [] [] z = tt
zip_weaker P Q f [] (y ∷ ys) z = absurd z
zip_weaker P Q f (x ∷ xs) [] z = absurd z
zip_weaker P Q f (x ∷ xs) (y ∷ ys) z = (f x y z.0, zip_weaker P Q f xs ys z.1)
