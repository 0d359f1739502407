-- What a list of differences tells of two values, of bytes and of lists: where it is empty they are equal, and each entry names two values that are not the same.
use Rattle.std.proofs.Common.{◌≡◌, ℕ, suc, ◌+◌, Bool, true, false, if◌then◌else◌, List, [], ◌∷◌, ◌++◌, length, Some, ℤ, pos, negsuc, refl, sym, ap, ◌∙◌, arith}
use Rattle.std.specs.Prelude.{◌==◌}
use Rattle.std.specs.List.{AllByRecursion}
use Rattle.std.proofs.lemmas.Bool.{eqb-true, eqb-false, eq-eqb}
use Rattle.std.proofs.lemmas.Slice.Eq.{bytes_eq-Decides}
use Rattle.mp4_boxes.specs.declared.four_cc.FourCc.{FourCc}
use Rattle.mp4_boxes.proofs.Among.{all_append}
use Rattle.mp4_content.specs.format.Differences.{same_signed, same_value, differ, numbers_differ, signed, first_unequal, byte_at, bytes_differ, payload_differences, each_differ, list_differences}
use Rattle.mp4_content.specs.format.ComparisonLaws.{SameValueIsEqual, IsOneDifference}
use Rattle.mp4_content.specs.declared.comparing.differences.Subject.{Subject}
use Rattle.mp4_content.specs.declared.comparing.differences.Entries.{Entries}
use Rattle.mp4_content.specs.declared.comparing.differences.Part.TheVariants as parts
use Rattle.mp4_content.specs.declared.comparing.differences.Field.{Field}
use Rattle.mp4_content.specs.declared.comparing.differences.Field.TheVariants as fields
use Rattle.mp4_content.specs.declared.comparing.differences.Value.{Value}
use Rattle.mp4_content.specs.declared.comparing.differences.Value.TheVariants.{Number, Signed, Kind, Byte}
use Rattle.mp4_content.specs.declared.comparing.differences.Difference.{Difference}
use Rattle.mp4_content.proofs.Differing.{nowhere}

-- ---- the test of two values

signed_to : (m n : ℤ) → same_signed m n ≡ true → m ≡ n
signed_to (pos m) (pos n) e = ap pos (eqb-true m n e)
signed_to (negsuc m) (negsuc n) e = ap negsuc (eqb-true m n e)
signed_to (pos m) (negsuc n) e = absurd cc
signed_to (negsuc m) (pos n) e = absurd cc

pub signed_self : (m : ℤ) → same_signed m m ≡ true
signed_self (pos m) = eq-eqb m m refl
signed_self (negsuc m) = eq-eqb m m refl

-- values that pass the test are equal
same_to : (a b : Value) → same_value a b ≡ true → a ≡ b
same_to (Number m) (Number n) e = ap Number (eqb-true m n e)
same_to (Signed m) (Signed n) e = ap Signed (signed_to m n e)
same_to (Kind a) (Kind b) e = λ i. Kind (record { 0 = (bytes_eq-Decides a.0 b.0).0 e i })
same_to (Byte m) (Byte n) e = ap Byte (eqb-true m n e)
same_to _ _ e = absurd cc

-- a value passes it with itself
same_self : (a : Value) → same_value a a ≡ true
same_self (Number m) = eq-eqb m m refl
same_self (Signed m) = signed_self m
same_self (Kind a) = (bytes_eq-Decides a.0 a.0).1 refl
same_self (Byte m) = eq-eqb m m refl

pub same_value_is_equal : SameValueIsEqual
same_value_is_equal a b = (same_to a b, λ e. ap (same_value a) (sym e) ∙ same_self a)

-- ---- what a list tells

-- where it is empty this holds, and each entry is a difference
pub record Tells (ds : List Difference) (P : Type 0) : Type 0 where
  pub none : ds ≡ [] → P
  pub each : AllByRecursion IsOneDifference ds

pub front_none : (xs ys : List Difference) → xs ++ ys ≡ [] → xs ≡ []
front_none [] ys e = refl
front_none (x ∷ xs) ys e = absurd cc

rest_none : (xs ys : List Difference) → xs ++ ys ≡ [] → ys ≡ []
rest_none [] ys e = e
rest_none (x ∷ xs) ys e = absurd cc

-- two lists tell what each of them does
pub both : {xs ys : List Difference} {P Q : Type 0} → Tells xs P → Tells ys Q → Tells (xs ++ ys) (P × Q)
both {xs} {ys} t u = record {
  none = λ e. (t.none (front_none xs ys e), u.none (rest_none xs ys e));
  each = all_append IsOneDifference xs ys t.each u.each;
}

-- what follows from it
pub weaker : {ds : List Difference} {P Q : Type 0} → Tells ds P → (P → Q) → Tells ds Q
weaker t f = record { none = λ e. f (t.none e); each = t.each }

-- ---- single values

module _ (of : Subject) (field : Field) where
  differ_by : (l r : Value) (b : Bool) → same_value l r ≡ b → Tells (if b then [] else record { subject = of; field = field; left = l; right = r } ∷ []) (l ≡ r)
  differ_by l r true e = record { none = λ f. same_to l r e; each = tt }
  differ_by l r false e = record { none = λ f. absurd cc; each = (e, tt) }

  pub differ_tells : (l r : Value) → Tells (differ of field l r) (l ≡ r)
  unfolding differ
  differ_tells l r = differ_by l r (same_value l r) refl

  pub number_tells : (m n : ℕ) → Tells (numbers_differ of field m n) (m ≡ n)
  number_tells m n = weaker (differ_tells (Number m) (Number n)) (λ (e : Number m ≡ Number n). cc)

  pub signed_tells : (m n : ℤ) → Tells (signed of field m n) (m ≡ n)
  signed_tells m n = weaker (differ_tells (Signed m) (Signed n)) (λ (e : Signed m ≡ Signed n). cc)

  pub byte_tells : (m n : ℕ) → Tells (differ of field (Byte m) (Byte n)) (m ≡ n)
  byte_tells m n = weaker (differ_tells (Byte m) (Byte n)) (λ (e : Byte m ≡ Byte n). cc)

  kind_same : (a b : FourCc) → Kind a ≡ Kind b → a ≡ b
  kind_same a b e = cc

  pub kind_tells : (xs ys : List ℕ) → Tells (differ of field (Kind (record { 0 = xs })) (Kind (record { 0 = ys }))) (xs ≡ ys)
  kind_tells xs ys = weaker (differ_tells (Kind (record { 0 = xs })) (Kind (record { 0 = ys }))) (λ e. ap (λ (k : FourCc). k.0) (kind_same (record { 0 = xs }) (record { 0 = ys }) e))

  pub differ_self : (v : Value) → differ of field v v ≡ []
  unfolding differ
  differ_self v = rw (same_self v) refl

-- ---- bytes

byte_step : (of : Subject) (field : ℕ → Field) (n x y : ℕ) (xs ys : List ℕ) (b : Bool) → (x == y) ≡ b → Tells (byte_at of field (first_unequal (suc n) xs ys)) (length xs ≡ length ys → xs ≡ ys)
    → Tells (byte_at of field (if b then first_unequal (suc n) xs ys else Some (n, x, y))) (length (x ∷ xs) ≡ length (y ∷ ys) → x ∷ xs ≡ y ∷ ys)
byte_step of field n x y xs ys true e t = weaker t (λ h l i. eqb-true x y e i ∷ h (omega (arith, l)) i)
byte_step of field n x y xs ys false e t = weaker (byte_tells of (field (n + 1)) x y) (λ h. absurd (eqb-false x y e h))

-- where no byte is named, bytes of one length are equal
first_tells : (of : Subject) (field : ℕ → Field) (n : ℕ) (xs ys : List ℕ) → Tells (byte_at of field (first_unequal n xs ys)) (length xs ≡ length ys → xs ≡ ys)
first_tells of field n [] [] = record { none = λ e l. refl; each = tt }
first_tells of field n [] (y ∷ ys) = record { none = λ e l. absurd (omega (arith, l)); each = tt }
first_tells of field n (x ∷ xs) [] = record { none = λ e l. absurd (omega (arith, l)); each = tt }
first_tells of field n (x ∷ xs) (y ∷ ys) = byte_step of field n x y xs ys (x == y) refl (first_tells of field (suc n) xs ys)

bytes_by : (of : Subject) (field : ℕ → Field) (m n : ℕ) (xs ys : List ℕ) (b : Bool) → (m == n) ≡ b → Tells (if b then byte_at of field (first_unequal 0 xs ys) else []) (m ≡ n → length xs ≡ length ys → xs ≡ ys)
bytes_by of field m n xs ys true e = weaker (first_tells of field 0 xs ys) (λ h l. h)
bytes_by of field m n xs ys false e = record { none = λ f l. absurd (eqb-false m n e l); each = tt }

pub bytes_tell : (of : Subject) (field : ℕ → Field) (xs ys : List ℕ) → Tells (bytes_differ of field (length xs) (length ys) xs ys) (length xs ≡ length ys → xs ≡ ys)
bytes_tell of field xs ys = weaker (bytes_by of field (length xs) (length ys) xs ys (length xs == length ys) refl) (λ h l. h l l)

pub bytes_self : (of : Subject) (field : ℕ → Field) (xs : List ℕ) → bytes_differ of field (length xs) (length xs) xs xs ≡ []
bytes_self of field xs = rw (eq-eqb (length xs) (length xs) refl) (rw (nowhere 0 xs) refl)

pub payload_tells : (of : Subject) (list : Entries) (n : ℕ) (xs ys : List ℕ) → Tells (payload_differences of list n xs ys) (xs ≡ ys)
payload_tells of list n xs ys = weaker (both (number_tells of (fields.Entry list n parts.Length) (length xs) (length ys)) (bytes_tell of (λ (k : ℕ). fields.Entry list n (parts.Byte k (length xs))) xs ys)) (λ h. h.1 h.0)

pub payload_self : (of : Subject) (list : Entries) (n : ℕ) (xs : List ℕ) → payload_differences of list n xs xs ≡ []
payload_self of list n xs = rw (differ_self of (fields.Entry list n parts.Length) (Number (length xs))) (bytes_self of (λ (k : ℕ). fields.Entry list n (parts.Byte k (length xs))) xs)

-- ---- lists

-- lists of as many entries are equal, where nothing differs between these
pub each_tells : {A : Type 0} (Good : A → Type 0) (one : ℕ → A → A → List Difference) → ((n : ℕ) (x y : A) → Tells (one n x y) (Good x → Good y → x ≡ y)) → (n : ℕ) (xs ys : List A)
    → Tells (each_differ one n xs ys) (length xs ≡ length ys → AllByRecursion Good xs → AllByRecursion Good ys → xs ≡ ys)
each_tells Good one h n [] [] = record { none = λ e l g k. refl; each = tt }
each_tells Good one h n [] (y ∷ ys) = record { none = λ e l. absurd (omega (arith, l)); each = tt }
each_tells Good one h n (x ∷ xs) [] = record { none = λ e l. absurd (omega (arith, l)); each = tt }
each_tells Good one h n (x ∷ xs) (y ∷ ys) = weaker (both (h n x y) (each_tells Good one h (suc n) xs ys)) (λ t l g k i. t.0 g.0 k.0 i ∷ t.1 (omega (arith, l)) g.1 k.1 i)

-- what holds of everything holds of each
pub all_good : {A : Type 0} (xs : List A) → AllByRecursion (λ (x : A). Unit {0}) xs
all_good [] = tt
all_good (x ∷ xs) = (tt, all_good xs)

pub entries_tell : {A : Type 0} (one : ℕ → A → A → List Difference) → ((n : ℕ) (x y : A) → Tells (one n x y) (x ≡ y)) → (n : ℕ) (xs ys : List A) → Tells (each_differ one n xs ys) (length xs ≡ length ys → xs ≡ ys)
entries_tell {A} one h n xs ys = weaker (each_tells (λ (x : A). Unit {0}) one (λ k x y. weaker (h k x y) (λ e g f. e)) n xs ys) (λ t l. t l (all_good xs) (all_good ys))

pub list_tells : {A : Type 0} (of : Subject) (list : Entries) (one : ℕ → A → A → List Difference) → ((n : ℕ) (x y : A) → Tells (one n x y) (x ≡ y)) → (xs ys : List A) → Tells (list_differences of list one xs ys) (xs ≡ ys)
list_tells of list one h xs ys = weaker (both (number_tells of (fields.Count list) (length xs) (length ys)) (entries_tell one h 1 xs ys)) (λ t. t.1 t.0)

pub each_self : {A : Type 0} (one : ℕ → A → A → List Difference) → ((n : ℕ) (x : A) → one n x x ≡ []) → (n : ℕ) (xs : List A) → each_differ one n xs xs ≡ []
each_self one h n [] = refl
each_self one h n (x ∷ xs) = rw (h n x) (each_self one h (suc n) xs)
