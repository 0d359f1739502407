-- Numbers that were met, in a set and in a list, and of which box one of them is.
use Rattle.std.proofs.Common.{◌≡◌, ℕ, Bool, true, false, cond, List, [], ◌∷◌, ◌++◌, refl, sym, ap, ◌∙◌, eqb-true, eq-eqb}
use Rattle.std.specs.Prelude.{◌||◌, not, nat_eq, map, bytes_eq}
use Rattle.std.specs.List.{list_any, AllZip}
use Rattle.std.specs.Cmp.{unsigned_ties}
use Rattle.std.specs.Ordering.{nat_cmp}
use Rattle.std.specs.BTreeSet.{BTreeSet, contains, IsEmpty}
use Rattle.std.proofs.lemmas.List.Folds.{list_any-append}
use Rattle.mp4_boxes.specs.format.Box.{Box}
use Rattle.mp4_boxes.specs.format.Children.{of_kind}
use Rattle.mp4_boxes.proofs.Among.{IsIn}
use Rattle.mp4_boxes.proofs.Plain.{not_and_is_true, or_is_false, true_false}
use Rattle.mp4_head.specs.format.Tree.{are_distinct}
use Rattle.mp4_head.specs.words.Ids.{HasIds, AddsId}

-- ---- the set

-- an empty set has none
pub no_ids : (ids : BTreeSet ℕ) → IsEmpty ids → HasIds ids []
no_ids ids e n = rw e refl

same_either_way : (m n : ℕ) (v w : Bool) → nat_eq m n ≡ v → nat_eq n m ≡ w → v ≡ w
same_either_way m n true true e f = refl
same_either_way m n false false e f = refl
same_either_way m n true false e f = sym (eq-eqb n m (sym (eqb-true m n e))) ∙ f
same_either_way m n false true e f = sym e ∙ eq-eqb m n (sym (eqb-true n m f))

pub or_of : (p q : Bool) → cond p true q ≡ (q || (p || false))
or_of true true = refl
or_of true false = refl
or_of false true = refl
or_of false false = refl

-- one more
pub more_ids : (old new : BTreeSet ℕ) (numbers : List ℕ) (id : ℕ) → HasIds old numbers → AddsId old new id → HasIds new (numbers ++ id ∷ [])
more_ids old new numbers id h a n =
    let same : nat_eq id n ≡ nat_eq n id = same_either_way id n (nat_eq id n) (nat_eq n id) refl refl in
    a.added.0 n
    ∙ ap (λ (p : Bool). cond p true (contains nat_cmp old n)) (sym (unsigned_ties id n) ∙ same)
    ∙ ap (cond (nat_eq n id) true) (h n)
    ∙ or_of (nat_eq n id) (list_any (nat_eq n) numbers)
    ∙ sym (list_any-append (nat_eq n) numbers (id ∷ []))

-- what an answer says of whether a number is new
pub was_there : (added there : Bool) → added ≡ not there → added ≡ false → there ≡ true
was_there added true e f = refl
was_there added false e f = absurd (true_false added e f)

pub was_not_there : (added there : Bool) → added ≡ not there → added ≡ true → there ≡ false
was_not_there added true e f = absurd (true_false added f e)
was_not_there added false e f = refl

-- ---- numbers that differ

-- one more that is none of them
pub distinct_more : (numbers : List ℕ) (id : ℕ) → are_distinct numbers ≡ true → list_any (nat_eq id) numbers ≡ false → are_distinct (numbers ++ id ∷ []) ≡ true
distinct_more [] id d n = refl
distinct_more (m ∷ numbers) id d n =
    let a = not_and_is_true (list_any (nat_eq m) numbers) (are_distinct numbers) d in
    let b = or_is_false (nat_eq id m) (list_any (nat_eq id) numbers) n in
    let other : nat_eq m id ≡ false = same_either_way m id (nat_eq m id) (nat_eq id m) refl refl ∙ b.0 in
    let none : list_any (nat_eq m) (numbers ++ id ∷ []) ≡ false = list_any-append (nat_eq m) numbers (id ∷ []) ∙ rw (a.0, other) refl in
    rw none (distinct_more numbers id a.1 b.1)

-- ---- whose number it is

-- a box of the type that goes with a value of this number
pub record IsOf {A : Type 0} (R : Box → A → Type 0) (g : A → ℕ) (kind : List ℕ) (bs : List Box) (n : ℕ) : Type 0 where
  pub b : Box
  pub value : A
  pub among : IsIn bs b
  pub is_kind : bytes_eq kind b.kind ≡ true
  pub goes : R b value
  pub number : g value ≡ n

behind : {A : Type 0} (R : Box → A → Type 0) (g : A → ℕ) (kind : List ℕ) (c : Box) (bs : List Box) (n : ℕ) → IsOf R g kind bs n → IsOf R g kind (c ∷ bs) n
behind R g kind c bs n o =
    record { b = o.b; value = o.value; among = record { before = c ∷ o.among.before; after = o.among.after; is = ap (λ (xs : List Box). c ∷ xs) o.among.is }; is_kind = o.is_kind; goes = o.goes; number = o.number }

-- the step of `whose`, by whether the number is that of the first value
number_step : {A : Type 0} (R : Box → A → Type 0) (g : A → ℕ) (kind : List ℕ) (c : Box) (bs : List Box) (v : A) (vs : List A) (n : ℕ) (w : Bool) → nat_eq n (g v) ≡ w → bytes_eq kind c.kind ≡ true → R c v
    → list_any (nat_eq n) (map g (v ∷ vs)) ≡ true → (list_any (nat_eq n) (map g vs) ≡ true → IsOf R g kind bs n) → IsOf R g kind (c ∷ bs) n
number_step R g kind c bs v vs n true e k r h more = record { b = c; value = v; among = record { before = []; after = bs; is = refl }; is_kind = k; goes = r; number = sym (eqb-true n (g v) e) }
number_step R g kind c bs v vs n false e k r h more = behind R g kind c bs n (more (rw e at h))

-- the step of `whose`, by the type of the first box
kind_step : {A : Type 0} (R : Box → A → Type 0) (g : A → ℕ) (kind : List ℕ) (c : Box) (bs : List Box) (vs : List A) (n : ℕ) (w : Bool) → bytes_eq kind c.kind ≡ w → AllZip R (of_kind kind (c ∷ bs)) vs
    → list_any (nat_eq n) (map g vs) ≡ true → ((us : List A) → AllZip R (of_kind kind bs) us → list_any (nat_eq n) (map g us) ≡ true → IsOf R g kind bs n) → IsOf R g kind (c ∷ bs) n
kind_step R g kind c bs [] n true e z h more = absurd cc
kind_step R g kind c bs (v ∷ vs) n true e z h more =
    let y : R c v × AllZip R (of_kind kind bs) vs = rw e at z in
    number_step R g kind c bs v vs n (nat_eq n (g v)) refl e y.0 h (λ k. more vs y.1 k)
kind_step R g kind c bs vs n false e z h more = behind R g kind c bs n (more vs (rw e at z) h)

-- where a number is among those of the values, it is that of a box
pub whose : {A : Type 0} (R : Box → A → Type 0) (g : A → ℕ) (kind : List ℕ) (bs : List Box) (vs : List A) (n : ℕ) → AllZip R (of_kind kind bs) vs → list_any (nat_eq n) (map g vs) ≡ true → IsOf R g kind bs n
whose R g kind [] [] n z h = absurd cc
whose R g kind [] (v ∷ vs) n z h = absurd z
whose R g kind (c ∷ bs) vs n z h = kind_step R g kind c bs vs n (bytes_eq kind c.kind) refl z h (λ us y k. whose R g kind bs us n y k)
