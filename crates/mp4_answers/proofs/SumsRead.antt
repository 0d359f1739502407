-- Lines of sums, read back.
use Rattle.std.proofs.Common.{◌≡◌, ◌∙◌, append_assoc, ◌++◌, ℕ, zero, suc, ◌+◌, ◌*◌, ◌/◌, ◌%◌, ◌^◌, ◌<◌, ◌≤◌, List, [], ◌∷◌, length, take, slice_index, slice_set, refl, sym, ap, subst, arith}
use Rattle.std.specs.Prelude.{Bool, true, false, ◌==◌, if◌then◌else◌, codes, Option, Some}
use Rattle.std.specs.Char.{digit_value}
use Rattle.std.proofs.lemmas.List.{take_all}
use Rattle.std.proofs.lemmas.Bool.Decides.{nat_tests}
use Rattle.mp4_boxes.specs.format.Bytes.{AreBytes}
use Rattle.mp4_boxes.proofs.Plain.{nat_lt_yes}
use Rattle.mp4_answers.specs.format.SumLines.{escaped_byte, escaped_name}
use Rattle.mp4_answers.specs.format.Texts.{hex_digit, hex_text}
use Rattle.mp4_answers.specs.words.SpelledNames.{byte_spelled, Spells}

pub hex_length : (bytes : List ℕ) → length (hex_text bytes) ≡ 2 * length bytes
hex_length [] = refl
hex_length (b ∷ bytes) = let more = hex_length bytes in omega (arith, more)

abbrev double : ℕ → ℕ
double zero = zero
double (suc k) = suc (suc (double k))

is_double : (k : ℕ) → double k ≡ 2 * k
is_double zero = refl
is_double (suc k) = let more = is_double k in omega (arith, more)

spelled_pair : (bytes : List ℕ) (k : ℕ) → AreBytes bytes → k < length bytes → Spells (slice_index (hex_text bytes) (double k)) (slice_index (hex_text bytes) (suc (double k))) (slice_index bytes k)
spelled_pair [] k are lt = absurd (omega (arith, lt))
spelled_pair (b ∷ bytes) zero are lt = (are 0, refl)
spelled_pair (b ∷ bytes) (suc k) are lt = spelled_pair bytes k (λ i. are (suc i)) (let l : suc k < suc (length bytes) = lt in omega (arith, l))

-- each byte is spelled by the two digits at its place
pub spelled_at : (digits bytes : List ℕ) (k : ℕ) → digits ≡ hex_text bytes → AreBytes bytes → k < length bytes → Spells (slice_index digits (2 * k)) (slice_index digits (2 * k + 1)) (slice_index bytes k)
spelled_at digits bytes k is are lt =
    let odd : suc (double k) ≡ 2 * k + 1 = let d = is_double k in omega (arith, d) in
    subst (λ (ds : List ℕ). Spells (slice_index ds (2 * k)) (slice_index ds (2 * k + 1)) (slice_index bytes k)) (sym is)
    (subst (λ (n : ℕ). Spells (slice_index (hex_text bytes) (2 * k)) (slice_index (hex_text bytes) n) (slice_index bytes k)) odd
    (subst (λ (n : ℕ). Spells (slice_index (hex_text bytes) n) (slice_index (hex_text bytes) (suc (double k))) (slice_index bytes k)) (is_double k) (spelled_pair bytes k are lt)))

-- so is the byte that is read of them
digit_read : (d : ℕ) → d < 16 → digit_value (hex_digit d) ≡ d
digit_read d lt = grind (arith, nat_tests, lt)

both_read : (high low : ℕ) → digit_value high < 16 → digit_value low < 16 → byte_spelled high low ≡ Some (16 * digit_value high + digit_value low)
both_read high low first second = rw (nat_lt_yes (digit_value high) 16 first, nat_lt_yes (digit_value low) 16 second) refl

pub byte_read : (high low b : ℕ) → Spells high low b → byte_spelled high low ≡ Some b
byte_read high low b (small, is) =
    let first : high ≡ hex_digit (b / 16 ^ 1 % 16) = cc in
    let second : low ≡ hex_digit (b / 16 ^ 0 % 16) = cc in
    let x = ap digit_value first ∙ digit_read (b / 16 ^ 1 % 16) (omega arith) in
    let y = ap digit_value second ∙ digit_read (b / 16 ^ 0 % 16) (omega arith) in
    both_read high low (omega (arith, x)) (omega (arith, y)) ∙ ap Some (omega (arith, small, x, y))

-- one more is the same
set_next : (xs ys : List ℕ) (k x : ℕ) → k < length xs → k < length ys → take k xs ≡ take k ys → x ≡ slice_index ys k → take (suc k) (slice_set xs k x) ≡ take (suc k) ys
set_next [] ys k x lt lt' same is = absurd (omega (arith, lt))
set_next (a ∷ xs) [] k x lt lt' same is = absurd (omega (arith, lt'))
set_next (a ∷ xs) (b ∷ ys) zero x lt lt' same is = ap (λ (n : ℕ). n ∷ []) is
set_next (a ∷ xs) (b ∷ ys) (suc k) x lt lt' same is =
    let first : a ≡ b = cc in
    let rest : take k xs ≡ take k ys = cc in
    let l : suc k < suc (length xs) = lt in
    let m : suc k < suc (length ys) = lt' in
    let more = set_next xs ys k x (omega (arith, l)) (omega (arith, m)) rest is in
    ap (λ (n : ℕ). n ∷ take (suc k) (slice_set xs k x)) first ∙ ap (λ (ns : List ℕ). b ∷ ns) more

pub set_more : (xs ys : List ℕ) (k x : ℕ) → k < length xs → k < length ys → take k xs ≡ take k ys → x ≡ slice_index ys k → take (k + 1) (slice_set xs k x) ≡ take (k + 1) ys
set_more xs ys k x lt lt' same is =
    let next : suc k ≡ k + 1 = omega arith in
    subst (λ (n : ℕ). take n (slice_set xs k x) ≡ take n ys) next (set_next xs ys k x lt lt' same is)

pub whole_same : (xs ys : List ℕ) (n : ℕ) → length xs ≤ n → length ys ≤ n → take n xs ≡ take n ys → xs ≡ ys
whole_same xs ys n l m same = sym (take_all n xs l) ∙ same ∙ take_all n ys m

pub some_is : (x y : ℕ) (r : Option ℕ) → r ≡ Some x → r ≡ Some y → x ≡ y
some_is x y r e f = cc

-- ---- names, byte by byte

pub peeled : (left : List ℕ) (first : ℕ) (tail rest : List ℕ) → left ≡ first ∷ tail → left ≡ escaped_name rest → (b : ℕ) × (more : List ℕ) × (rest ≡ b ∷ more) × (first ∷ tail ≡ escaped_byte b ++ escaped_name more)
peeled left first tail [] e f = absurd (let none : first ∷ tail ≡ [] = sym e ∙ f in cc)
peeled left first tail (b ∷ more) e f = (b, more, refl, sym e ∙ f)

pub one_more : (items items' left rest : List ℕ) (b : ℕ) → items' ≡ items ++ b ∷ [] → left ≡ b ∷ rest → items ++ left ≡ items' ++ rest
one_more items items' left rest b e f =
    ap (λ (xs : List ℕ). items ++ xs) f ∙ sym (append_assoc items (b ∷ []) rest) ∙ ap (λ (xs : List ℕ). xs ++ rest) (sym e)

some_byte : (is_feed is_return is_slash : Bool) (b : ℕ) (more : List ℕ) → (if is_feed then codes "\\n" else if is_return then codes "\\r" else if is_slash then codes "\\\\" else b ∷ []) ++ more ≡ [] → ⊥
some_byte true y z b more e = cc
some_byte false true z b more e = cc
some_byte false false true b more e = cc
some_byte false false false b more e = cc

pub none_to_come : (left rest : List ℕ) → length left ≡ 0 → left ≡ escaped_name rest → rest ≡ []
none_to_come [] [] len e = refl
none_to_come [] (b ∷ rest) len e = absurd (some_byte (b == 10) (b == 13) (b == 92) b (escaped_name rest) (sym e))
none_to_come (c ∷ left) rest len e = absurd (omega (arith, len))
