-- What holds of each member of a list, and of what is made of the list.
use Rattle.std.proofs.Common.{◌≡◌, ℕ, zero, suc, Bool, true, false, List, [], ◌∷◌, take, drop, replicate, refl, ap}
use Rattle.std.specs.Prelude.{IsTrue, filter, flat_map, map, bytes_eq}
use Rattle.std.specs.List.{AllByRecursion, list_all}
use Rattle.std.proofs.lemmas.Bool.{and_parts}
use Rattle.mp4_boxes.specs.format.Box.{Box}
use Rattle.mp4_boxes.specs.format.Children.{of_kind}
use Rattle.mp4_boxes.proofs.Among.{IsIn, all_append}
use Rattle.mp4_boxes.proofs.Plain.{head_is, tail_is}

-- what follows from two facts holds where both do
pub each_from : {A : Type 0} (P Q R : A → Type 0) → ((x : A) → P x → Q x → R x) → (xs : List A) → AllByRecursion P xs → AllByRecursion Q xs → AllByRecursion R xs
each_from P Q R both [] h k = tt
each_from P Q R both (x ∷ xs) h k = (both x h.0 k.0, each_from P Q R both xs h.1 k.1)

-- what follows from a fact holds where it does
pub each_weaker : {A : Type 0} (P Q : A → Type 0) → ((x : A) → P x → Q x) → (xs : List A) → AllByRecursion P xs → AllByRecursion Q xs
each_weaker P Q one [] h = tt
each_weaker P Q one (x ∷ xs) h = (one x h.0, each_weaker P Q one xs h.1)

-- what follows from a fact holds of each value of a function
pub each_value : {A B : Type 0} (P : A → Type 0) (Q : B → Type 0) (f : A → B) → ((x : A) → P x → Q (f x)) → (xs : List A) → AllByRecursion P xs → AllByRecursion Q (map f xs)
each_value P Q f one [] h = tt
each_value P Q f one (x ∷ xs) h = (one x h.0, each_value P Q f one xs h.1)

-- the same for the members of lists that a function gives
pub each_joined : {A B : Type 0} (P : A → Type 0) (Q : B → Type 0) (f : A → List B) → ((x : A) → P x → AllByRecursion Q (f x)) → (xs : List A) → AllByRecursion P xs → AllByRecursion Q (flat_map f xs)
each_joined P Q f one [] h = tt
each_joined P Q f one (x ∷ xs) h = all_append Q (f x) (flat_map f xs) (one x h.0) (each_joined P Q f one xs h.1)

-- of the first members
pub each_taken : {A : Type 0} (P : A → Type 0) (n : ℕ) (xs : List A) → AllByRecursion P xs → AllByRecursion P (take n xs)
each_taken P zero xs h = tt
each_taken P (suc n) [] h = tt
each_taken P (suc n) (x ∷ xs) h = (h.0, each_taken P n xs h.1)

-- of what is left behind them
pub each_dropped : {A : Type 0} (P : A → Type 0) (n : ℕ) (xs : List A) → AllByRecursion P xs → AllByRecursion P (drop n xs)
each_dropped P zero xs h = h
each_dropped P (suc n) [] h = tt
each_dropped P (suc n) (x ∷ xs) h = each_dropped P n xs h.1

-- of one value again and again
pub each_again : {A : Type 0} (P : A → Type 0) (n : ℕ) (x : A) → P x → AllByRecursion P (replicate n x)
each_again P zero x h = tt
each_again P (suc n) x h = (h, each_again P n x h)

-- the step of `each_kept`, by the test of the first
kept_at : {A : Type 0} (P : A → Type 0) (test : A → Bool) (x : A) (xs : List A) (b : Bool) → test x ≡ b → P x → AllByRecursion (λ y. P y × (test y ≡ true)) (filter test xs)
    → AllByRecursion (λ y. P y × (test y ≡ true)) (filter test (x ∷ xs))
kept_at P test x xs true e p h = rw e ((p, e), h)
kept_at P test x xs false e p h = rw e h

-- of those that pass a test, which they do
pub each_kept : {A : Type 0} (P : A → Type 0) (test : A → Bool) (xs : List A) → AllByRecursion P xs → AllByRecursion (λ y. P y × (test y ≡ true)) (filter test xs)
each_kept P test [] h = tt
each_kept P test (x ∷ xs) h = kept_at P test x xs (test x) refl h.0 (each_kept P test xs h.1)

-- the step of `each_of_kind`, by the type of the first
kind_at : (P : Box → Type 0) (kind : List ℕ) (b : Box) (bs : List Box) (v : Bool) → bytes_eq kind b.kind ≡ v → P b → AllByRecursion (λ c. P c × (bytes_eq kind c.kind ≡ true)) (of_kind kind bs)
    → AllByRecursion (λ c. P c × (bytes_eq kind c.kind ≡ true)) (of_kind kind (b ∷ bs))
kind_at P kind b bs true e p h = rw e ((p, e), h)
kind_at P kind b bs false e p h = rw e h

-- of the boxes of a type, which they have
pub each_of_kind : (P : Box → Type 0) (kind : List ℕ) (bs : List Box) → AllByRecursion P bs → AllByRecursion (λ c. P c × (bytes_eq kind c.kind ≡ true)) (of_kind kind bs)
each_of_kind P kind [] h = tt
each_of_kind P kind (b ∷ bs) h = kind_at P kind b bs (bytes_eq kind b.kind) refl h.0 (each_of_kind P kind bs h.1)

-- what holds of whatever is in a list holds of each
pub each_member : {A : Type 0} (P : A → Type 0) (xs : List A) → ((x : A) → IsIn xs x → P x) → AllByRecursion P xs
each_member P [] h = tt
each_member P (x ∷ xs) h = (
  h x (record { before = []; after = xs; is = refl }),
  each_member P xs (λ y i. h y (record { before = x ∷ i.before; after = i.after; is = ap (λ zs. x ∷ zs) i.is })),
)

-- what a test passes for all, it passes for each
pub each_tested : {A : Type 0} (p : A → Bool) (xs : List A) → list_all p xs ≡ true → AllByRecursion (λ x. IsTrue (p x)) xs
each_tested p [] e = tt
each_tested p (x ∷ xs) e = let q = and_parts (p x) (list_all p xs) e in (q.0, each_tested p xs q.1)

-- a function that has one value on all of a list has it on each: of a list that can be computed, however long, by `refl`
pub each_same : {A B : Type 0} (f : A → B) (v : B) (xs : List A) → map f xs ≡ map (λ (x : A). v) xs → AllByRecursion (λ x. f x ≡ v) xs
each_same f v [] e = tt
each_same {A} f v (x ∷ xs) e =
    let values = λ (ys : List A). map (λ (y : A). v) ys in
    (head_is (f x) v (map f xs) (values xs) e, each_same f v xs (tail_is (f x) v (map f xs) (values xs) e))
