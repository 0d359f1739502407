-- Booleans, numbers, options and lists, of which many files of proofs speak.
use Rattle.std.proofs.Common.{◌≡◌, ◌∙◌, ℕ, zero, suc, ◌+◌, ◌*◌, ◌^◌, ◌<◌, ◌≤◌, ◌==◌, ◌&&◌, ◌||◌, not, max, nat_le, nat_lt, nat_eq, eqb, ltb, Bool, true, false, List, [], ◌∷◌, ◌++◌, length, take, drop, map, Option, Some, None, ap, refl, subst, arith, rules, append_assoc, slice_index}
use Rattle.std.specs.Prelude.{bytes_eq, option_map}
use Rattle.std.proofs.lemmas.Bool.{ltb-false, ltb-true, eqb-false}
use Rattle.std.proofs.lemmas.Bool.Decides.{nat_tests}
use Rattle.std.proofs.lemmas.Slice.Eq.{bytes_eq-Decides}
use Rattle.std.specs.List.{AllByRecursion, AllZip, slice_get}

-- ---- booleans

pub true_false : (b : Bool) → b ≡ true → b ≡ false → ⊥
true_false b e f = cc

pub false_and_true : (b : Bool) → b ≡ false → b ≡ true → ⊥
false_and_true true e f = absurd (true_false true refl e)
false_and_true false e f = absurd (true_false false f refl)

pub both_ways : {A : Type 0} (b : Bool) → b ≡ true → b ≡ false → A
both_ways true e f = absurd cc
both_ways false e f = absurd cc

pub false_true : false ≡ true → ⊥
false_true e = cc

pub not_true_is : (b : Bool) → (b ≡ true → ⊥) → b ≡ false
not_true_is true f = absurd (f refl)
not_true_is false f = refl

pub not_is_true : (b : Bool) → not b ≡ true → b ≡ false
not_is_true true e = absurd cc
not_is_true false e = refl

pub not_is_false : (b : Bool) → not b ≡ false → b ≡ true
not_is_false true e = refl
not_is_false false e = absurd cc

pub or_is_false : (a b : Bool) → (a || b) ≡ false → (a ≡ false) × (b ≡ false)
or_is_false true b e = absurd cc
or_is_false false b e = (refl, e)

pub and_is_true : (a b : Bool) → (a && b) ≡ true → (a ≡ true) × (b ≡ true)
and_is_true true b e = (refl, e)
and_is_true false b e = absurd cc

pub not_and_is_true : (p q : Bool) → not p && q ≡ true → (p ≡ false) × (q ≡ true)
not_and_is_true true q e = absurd cc
not_and_is_true false q e = (refl, e)

pub or_true : (b : Bool) → (b || true) ≡ true
or_true true = refl
or_true false = refl

pub or_false : (b : Bool) → (b || false) ≡ b
or_false true = refl
or_false false = refl

pub or_same : (b : Bool) → (b || b) ≡ b
or_same true = refl
or_same false = refl

pub or_right : (p q : Bool) → q ≡ true → p || q ≡ true
or_right true q e = refl
or_right false q e = e

pub or_left : (p q : Bool) → p ≡ true → p || q ≡ true
or_left p q e = rw e refl

pub and_false : (a : Bool) → (a && false) ≡ false
and_false true = refl
and_false false = refl

-- ---- numbers

pub suc_is : (k : ℕ) → suc k ≡ k + 1
suc_is k = omega arith

pub plus_one : (k : ℕ) → k + 1 ≡ suc k
plus_one k = omega arith

pub same_eq : (d : ℕ) → (d == d) ≡ true
same_eq d = search rules

pub eq_other : (m n : ℕ) → (m == n) ≡ false → (n == m) ≡ false
eq_other m n e = search rules

pub nat_eq_other : (m n : ℕ) → nat_eq m n ≡ false → (n == m) ≡ false
nat_eq_other m n e = grind (arith, nat_tests)

pub eqb_zero : (n : ℕ) → eqb n 0 ≡ false → 0 < n
eqb_zero n e = let ne = eqb-false n 0 e in omega arith

pub ltb_by : (a b : ℕ) (v : Bool) → ltb a b ≡ v → a < b → ltb a b ≡ true
ltb_by a b true e lt = e
ltb_by a b false e lt = absurd (omega (arith, lt, ltb-false a b e))

pub ltb_not_by : (a b : ℕ) (v : Bool) → ltb a b ≡ v → b ≤ a → ltb a b ≡ false
ltb_not_by a b false e le = e
ltb_not_by a b true e le = absurd (omega (arith, le, ltb-true a b e))

pub nat_le_yes : (a b : ℕ) → a ≤ b → nat_le a b ≡ true
nat_le_yes a b h = grind (arith, nat_tests)

pub nat_le_no : (a b : ℕ) → b < a → nat_le a b ≡ false
nat_le_no a b h = grind (arith, nat_tests)

pub nat_lt_yes : (a b : ℕ) → a < b → nat_lt a b ≡ true
nat_lt_yes a b h = grind (arith, nat_tests)

pub nat_lt_is : (a b : ℕ) → nat_lt a b ≡ true → a < b
nat_lt_is a b h = grind (arith, nat_tests)

pub max_swap : (a b : ℕ) → max a b ≡ max b a
max_swap a b = omega arith

pub below_four : (P : ℕ → Type 0) → P 0 → P 1 → P 2 → P 3 → (j : ℕ) → j < 4 → P j
below_four P a b c d zero lt = a
below_four P a b c d (suc zero) lt = b
below_four P a b c d (suc (suc zero)) lt = c
below_four P a b c d (suc (suc (suc zero))) lt = d
below_four P a b c d (suc (suc (suc (suc j)))) lt = absurd (omega arith)

pub four_digits : (a b c d p q r s : ℕ) → b < 256 → c < 256 → d < 256 → q < 256 → r < 256 → s < 256
    → a * 256 ^ 3 + (b * 256 ^ 2 + (c * 256 ^ 1 + (d * 256 ^ 0 + 0))) ≡ p * 256 ^ 3 + (q * 256 ^ 2 + (r * 256 ^ 1 + (s * 256 ^ 0 + 0))) → (a ≡ p) × (b ≡ q) × (c ≡ r) × (d ≡ s)
four_digits a b c d p q r s lb lc ld lq lr ls e = (omega arith, omega arith, omega arith, omega arith)

-- ---- options

pub some_is : {A : Type 0} (x y : A) → ◌≡◌ {A = Option A} (Some x) (Some y) → x ≡ y
some_is x y e = cc

pub none_some : {A : Type 0} (x : A) → ◌≡◌ {A = Option A} None (Some x) → ⊥
none_some x e = cc

pub map_some : {A B : Type 0} (f : A → B) (o : Option A) (y : B) → option_map f o ≡ Some y → (x : A) × (o ≡ Some x) × (f x ≡ y)
map_some f None y e = absurd cc
map_some f (Some x) y e = (x, refl, cc)

-- ---- lists

pub head_is : {A : Type 0} (x y : A) (xs ys : List A) → ◌≡◌ {A = List A} (x ∷ xs) (y ∷ ys) → x ≡ y
head_is x y xs ys e = cc

pub tail_is : {A : Type 0} (x y : A) (xs ys : List A) → ◌≡◌ {A = List A} (x ∷ xs) (y ∷ ys) → xs ≡ ys
tail_is x y xs ys e = cc

pub nil_cons : {A : Type 0} (y : A) (ys : List A) → ◌≡◌ {A = List A} [] (y ∷ ys) → ⊥
nil_cons y ys e = cc

pub append_four : (a b c d : List ℕ) → a ++ b ++ c ++ d ≡ a ++ (b ++ (c ++ d))
append_four a b c d = simp append_assoc

pub bytes_eq_is : (a b : List ℕ) → bytes_eq a b ≡ true → a ≡ b
bytes_eq_is a b e = (bytes_eq-Decides a b).0 e

pub length_mapped : {A B : Type 0} (f : A → B) (xs : List A) → length (map f xs) ≡ length xs
length_mapped f [] = refl
length_mapped f (x ∷ xs) = ap suc (length_mapped f xs)

pub map_same : {A : Type 0} (f : A → A) → ((x : A) → f x ≡ x) → (xs : List A) → map f xs ≡ xs
map_same f same [] = refl
map_same f same (x ∷ xs) = λ i. same x i ∷ map_same f same xs i

pub get_map : {A B : Type 0} (f : A → B) (xs : List A) (k : ℕ) (x : A) → slice_get xs k ≡ Some x → slice_get (map f xs) k ≡ Some (f x)
get_map f [] k x e = absurd cc
get_map f (y ∷ xs) zero x e = ap (λ v. Some (f v)) (some_is y x e)
get_map f (y ∷ xs) (suc k) x e = get_map f xs k x e

pub get_some : {A : Type 0} (xs : List A) (k : ℕ) → k < length xs → (x : A) × (slice_get xs k ≡ Some x)
get_some [] k h = absurd (omega arith)
get_some (x ∷ xs) zero h = (x, refl)
get_some (x ∷ xs) (suc k) h = get_some xs k (omega arith)

pub get_last : {A : Type 0} (xs : List A) (y : A) → slice_get (xs ++ y ∷ []) (length xs) ≡ Some y
get_last [] y = refl
get_last (x ∷ xs) y = get_last xs y

pub get_every : {A : Type 0} (P : A → Type 0) (xs : List A) (k : ℕ) (x : A) → slice_get xs k ≡ Some x → AllByRecursion P xs → P x
get_every P [] k x e h = absurd (cc)
get_every P (y ∷ ys) zero x e h = subst P (some_is y x e) h.0
get_every P (y ∷ ys) (suc k) x e h = get_every P ys k x e h.1

pub drop_all : {A : Type 0} (xs : List A) (k : ℕ) → length xs ≤ k → drop k xs ≡ []
drop_all [] zero le = refl
drop_all [] (suc k) le = refl
drop_all (x ∷ xs) zero le = absurd (omega (arith, le))
drop_all (x ∷ xs) (suc k) le = drop_all xs k (omega (arith, le))

pub take_everything : {A : Type 0} (xs : List A) (k : ℕ) → length xs ≤ k → take k xs ≡ xs
take_everything [] zero le = refl
take_everything [] (suc k) le = refl
take_everything (x ∷ xs) zero le = absurd (omega (arith, le))
take_everything (x ∷ xs) (suc k) le = ap (λ ys. x ∷ ys) (take_everything xs k (omega (arith, le)))

pub drop_suc : {A : Type 0} (xs : List A) (k : ℕ) (x : A) → slice_get xs k ≡ Some x → drop k xs ≡ x ∷ drop (suc k) xs
drop_suc [] k x e = absurd cc
drop_suc (y ∷ xs) zero x e = let same : y ≡ x = cc in ap (λ z. z ∷ xs) same
drop_suc (y ∷ xs) (suc k) x e = drop_suc xs k x e

pub drop_plus : {A : Type 0} (xs : List A) (k : ℕ) (x : A) → slice_get xs k ≡ Some x → drop k xs ≡ x ∷ drop (k + 1) xs
drop_plus xs k x e = let one : suc k ≡ k + 1 = omega arith in drop_suc xs k x e ∙ ap (λ n. x ∷ drop n xs) one

pub length_zip : {A B : Type 0} (R : A → B → Type 0) (xs : List A) (ys : List B) → AllZip R xs ys → length xs ≡ length ys
length_zip R [] [] z = refl
length_zip R [] (y ∷ ys) z = absurd z
length_zip R (x ∷ xs) [] z = absurd z
length_zip R (x ∷ xs) (y ∷ ys) z = ap suc (length_zip R xs ys z.1)

pub get_zip : {A B : Type 0} (R : A → B → Type 0) (xs : List A) (ys : List B) (k : ℕ) (x : A) (y : B) → AllZip R xs ys → slice_get xs k ≡ Some x → slice_get ys k ≡ Some y → R x y
get_zip R [] ys k x y h a b = absurd (cc)
get_zip R (v ∷ xs) [] k x y h a b = absurd h
get_zip R (v ∷ xs) (w ∷ ys) zero x y h a b = subst (λ c. R c y) (some_is v x a) (subst (R v) (some_is w y b) h.0)
get_zip R (v ∷ xs) (w ∷ ys) (suc k) x y h a b = get_zip R xs ys k x y h.1 a b

pub four_items : (xs : List ℕ) → length xs ≡ 4 → xs ≡ slice_index xs 0 ∷ slice_index xs 1 ∷ slice_index xs 2 ∷ slice_index xs 3 ∷ []
four_items [] e = absurd (omega (arith, e))
four_items (a ∷ []) e = absurd (omega (arith, e))
four_items (a ∷ b ∷ []) e = absurd (omega (arith, e))
four_items (a ∷ b ∷ c ∷ []) e = absurd (omega (arith, e))
four_items (a ∷ b ∷ c ∷ d ∷ []) e = refl
four_items (a ∷ b ∷ c ∷ d ∷ f ∷ xs) e = absurd (omega (arith, e))
