-- Words of a line: the same line has the same words, and words tell the values that they are of.
use Rattle.std.proofs.Common.{◌≡◌, ℕ, zero, suc, ◌+◌, ◌/◌, ◌%◌, ◌^◌, ◌<◌, ◌≤◌, ltb, Bool, true, false, List, [], ◌∷◌, ◌++◌, length, refl, sym, ap, subst, ◌∙◌, arith, append_assoc, codes, decimal}
use Rattle.std.specs.Prelude.{flat_map, if◌then◌else◌, ◌==◌, slice_index, ℤ, pos, negsuc}
use Rattle.std.specs.Fmt.{signed_decimal, digits, digits_onto, digit_glyph}
use Rattle.std.specs.Int.{bytes_high_first}
use Rattle.std.specs.List.{AllByRecursion}
use Rattle.std.proofs.lemmas.Bool.{lt-ltb, ltb-true, ltb-false}
use Rattle.std.proofs.lemmas.Fmt.{decimal_injective}
use Rattle.sha2.specs.Sha256.{sha256, digest_bytes}
use Rattle.mp4_boxes.specs.format.FaultTexts.{hex_digit, hex_digits}
use Rattle.mp4_boxes.proofs.Among.{all_append}
use Rattle.mp4_answers.specs.format.Text.{named_line}
use Rattle.mp4_answers.specs.format.Texts.{hex_text, space, line_feed}

-- ---- where a word ends

-- a run of characters of one kind ends at the first of another
pub run_ends : (Q : ℕ → Type 0) (u v : List ℕ) (c d : ℕ) (xs ys : List ℕ) → AllByRecursion Q u → AllByRecursion Q v → (Q c → ⊥) → (Q d → ⊥) → u ++ c ∷ xs ≡ v ++ d ∷ ys → (u ≡ v) × (c ∷ xs ≡ d ∷ ys)
run_ends Q [] [] c d xs ys a b p q e = (refl, e)
run_ends Q [] (y ∷ v) c d xs ys a b p q e = let same : y ≡ c = cc in absurd (p (subst Q same b.0))
run_ends Q (x ∷ u) [] c d xs ys a b p q e = let same : x ≡ d = cc in absurd (q (subst Q same a.0))
run_ends Q (x ∷ u) (y ∷ v) c d xs ys a b p q e =
    let same : x ≡ y = cc in
    let rest : u ++ c ∷ xs ≡ v ++ d ∷ ys = cc in
    let more = run_ends Q u v c d xs ys a.1 b.1 p q rest in
    (λ i. same i ∷ more.0 i, more.1)

-- no character of a word is a space, or below one
abbrev pub IsWord : List ℕ → Type 0
IsWord word = AllByRecursion (λ (b : ℕ). 32 < b) word

-- words, each behind a space
abbrev pub spaced : List (List ℕ) → List ℕ
spaced words = flat_map (λ (word : List ℕ). space ++ word) words

-- what follows a word begins with a space, or with the line feed
behind : (words : List (List ℕ)) (xs : List ℕ) → (c : ℕ) × (zs : List ℕ) × (spaced words ++ 10 ∷ xs ≡ c ∷ zs) × (c ≤ 32)
behind [] xs = (10, xs, refl, omega arith)
behind (w ∷ words) xs = (32, w ++ spaced words ++ 10 ∷ xs, refl, omega arith)

-- the same line has the same words
pub words_end : (us vs : List (List ℕ)) (xs ys : List ℕ) → AllByRecursion IsWord us → AllByRecursion IsWord vs → spaced us ++ 10 ∷ xs ≡ spaced vs ++ 10 ∷ ys → (us ≡ vs) × (xs ≡ ys)
words_end [] [] xs ys a b e = let rest : xs ≡ ys = cc in (refl, rest)
words_end [] (v ∷ vs) xs ys a b e = let same : ◌≡◌ {A = ℕ} 10 32 = cc in absurd (omega (arith, same))
words_end (u ∷ us) [] xs ys a b e = let same : ◌≡◌ {A = ℕ} 32 10 = cc in absurd (omega (arith, same))
words_end (u ∷ us) (v ∷ vs) xs ys a b e =
    let f : (u ++ spaced us) ++ 10 ∷ xs ≡ (v ++ spaced vs) ++ 10 ∷ ys = cc in
    let s = behind us xs in
    let t = behind vs ys in
    let g : u ++ s.0 ∷ s.1 ≡ v ++ t.0 ∷ t.1 =
    ap (λ (bs : List ℕ). u ++ bs) (sym s.2) ∙ sym (append_assoc u (spaced us) (10 ∷ xs)) ∙ f ∙ append_assoc v (spaced vs) (10 ∷ ys) ∙ ap (λ (bs : List ℕ). v ++ bs) t.2 in
    let low = s.3 in
    let low_too = t.3 in
    let r = run_ends (λ (b : ℕ). 32 < b) u v s.0 t.0 s.1 t.1 a.0 b.0 (λ lt. omega (arith, lt, low)) (λ lt. omega (arith, lt, low_too)) g in
    let more = words_end us vs xs ys a.1 b.1 (s.2 ∙ r.1 ∙ sym t.2) in
    (λ i. r.0 i ∷ more.0 i, more.1)

-- what stands in front of both
pub cancel : (u xs ys : List ℕ) → u ++ xs ≡ u ++ ys → xs ≡ ys
cancel [] xs ys e = e
cancel (x ∷ u) xs ys e = let rest : u ++ xs ≡ u ++ ys = cc in cancel u xs ys rest

line_apart : (sp name colon words feed xs : List ℕ) → (sp ++ name ++ colon ++ words ++ feed) ++ xs ≡ (sp ++ (name ++ colon)) ++ (words ++ (feed ++ xs))
line_apart sp name colon words feed xs = simp append_assoc

-- the same line of a name has the same words
pub same_words : (name : List ℕ) (us vs : List (List ℕ)) (xs ys : List ℕ) → AllByRecursion IsWord us → AllByRecursion IsWord vs → named_line name us ++ xs ≡ named_line name vs ++ ys → (us ≡ vs) × (xs ≡ ys)
same_words name us vs xs ys a b e =
    words_end us vs xs ys a b (cancel (space ++ (name ++ codes ":")) (spaced us ++ 10 ∷ xs) (spaced vs ++ 10 ∷ ys) (sym (line_apart space name (codes ":") (spaced us) line_feed xs) ∙ e ∙ line_apart space name (codes ":") (spaced vs) line_feed ys))

-- ---- numbers

-- a digit
abbrev pub IsDigit : ℕ → Type 0
IsDigit c = (48 ≤ c) × (c ≤ 57)

one_digit : (n : ℕ) → IsDigit (digit_glyph false (n % 10))
one_digit n = rw (lt-ltb (n % 10) 10 (omega arith)) (omega arith, omega arith)

onto_by : (v : Bool) (k n : ℕ) (more : List ℕ) → AllByRecursion IsDigit more → ((rest : List ℕ) → AllByRecursion IsDigit rest → AllByRecursion IsDigit (digits_onto k 10 false (n / 10) rest))
    → AllByRecursion IsDigit (if v then digit_glyph false (n % 10) ∷ more else digits_onto k 10 false (n / 10) (digit_glyph false (n % 10) ∷ more))
onto_by true k n more h f = (one_digit n, h)
onto_by false k n more h f = f (digit_glyph false (n % 10) ∷ more) (one_digit n, h)

onto_digits : (k n : ℕ) (more : List ℕ) → AllByRecursion IsDigit more → AllByRecursion IsDigit (digits_onto k 10 false n more)
onto_digits zero n more h = h
onto_digits (suc k) n more h = onto_by (n / 10 == 0) k n more h (λ rest r. onto_digits k (n / 10) rest r)

pub decimal_digits : (n : ℕ) → AllByRecursion IsDigit (decimal n)
unfolding digits
decimal_digits n = onto_digits 64 n [] tt

digits_word : (ds : List ℕ) → AllByRecursion IsDigit ds → IsWord ds
digits_word [] h = tt
digits_word (d ∷ ds) h = let low = h.0.0 in (omega (arith, low), digits_word ds h.1)

pub decimal_word : (n : ℕ) → IsWord (decimal n)
decimal_word n = digits_word (decimal n) (decimal_digits n)

-- a number of which 64 bits hold the size
abbrev pub IsSmall : ℤ → Type 0
IsSmall (pos n) = n < 2 ^ 64
IsSmall (negsuc n) = suc n < 2 ^ 64

pub signed_word : (z : ℤ) → IsWord (signed_decimal z)
signed_word (pos n) = decimal_word n
signed_word (negsuc n) = (omega arith, decimal_word (suc n))

no_minus : (ds more : List ℕ) → AllByRecursion IsDigit ds → ds ≡ 45 ∷ more → ⊥
no_minus [] more h e = cc
no_minus (d ∷ ds) more h e = let same : d ≡ 45 = cc in let low = h.0.0 in omega (arith, same, low)

pub signed_same : (y z : ℤ) → IsSmall y → IsSmall z → signed_decimal y ≡ signed_decimal z → y ≡ z
signed_same (pos m) (pos n) h k e = ap (λ (x : ℕ). pos x) (decimal_injective m n h k e)
signed_same (pos m) (negsuc n) h k e = absurd (no_minus (decimal m) (decimal (suc n)) (decimal_digits m) e)
signed_same (negsuc m) (pos n) h k e = absurd (no_minus (decimal n) (decimal (suc m)) (decimal_digits n) (sym e))
signed_same (negsuc m) (negsuc n) h k e =
    let rest : decimal (suc m) ≡ decimal (suc n) = cc in
    let same = decimal_injective (suc m) (suc n) h k rest in
    let less : m ≡ n = omega (arith, same) in
    ap (λ (x : ℕ). negsuc x) less

-- ---- hexadecimal digits

digit_above : (d : ℕ) → 32 < hex_digit d
digit_above d = by (ltb d 10)
  where
    by : (v : Bool) → 32 < (if v then 48 + d else 87 + d)
    by true = omega arith
    by false = omega arith

pub hex_word : (k n : ℕ) → IsWord (hex_digits k n)
hex_word zero n = tt
hex_word (suc k) n = (digit_above (n / 16 ^ k % 16), hex_word k n)

digit_same : (a b : ℕ) → a < 16 → b < 16 → hex_digit a ≡ hex_digit b → a ≡ b
digit_same a b h k e = by (ltb a 10) (ltb b 10) refl refl e
  where
    not_less : (n : ℕ) → ltb n 10 ≡ false → 10 ≤ n
    not_less n f = ltb-false n 10 f

    by : (v w : Bool) → ltb a 10 ≡ v → ltb b 10 ≡ w → (if v then 48 + a else 87 + a) ≡ (if w then 48 + b else 87 + b) → a ≡ b
    by true true f g e = omega (arith, e)
    by false false f g e = omega (arith, e)
    by true false f g e = let low = ltb-true a 10 f in let high = not_less b g in absurd (omega (arith, e, low, high))
    by false true f g e = let low = ltb-true b 10 g in let high = not_less a f in absurd (omega (arith, e, low, high))

-- numbers of the same digits agree in so many of them
abbrev SameDigits : ℕ → ℕ → ℕ → Type 0
SameDigits zero m n = Unit {0}
SameDigits (suc k) m n = (m / 16 ^ k % 16 ≡ n / 16 ^ k % 16) × SameDigits k m n

same_digits : (k m n : ℕ) → hex_digits k m ≡ hex_digits k n → SameDigits k m n
same_digits zero m n e = tt
same_digits (suc k) m n e =
    let first : hex_digit (m / 16 ^ k % 16) ≡ hex_digit (n / 16 ^ k % 16) = cc in
    let rest : hex_digits k m ≡ hex_digits k n = cc in
    (digit_same (m / 16 ^ k % 16) (n / 16 ^ k % 16) (omega arith) (omega arith) first, same_digits k m n rest)

pub hex_same_2 : (m n : ℕ) → m < 256 → n < 256 → hex_digits 2 m ≡ hex_digits 2 n → m ≡ n
hex_same_2 m n h k e = let d = same_digits 2 m n e in let a = d.0 in let b = d.1.0 in omega (arith, h, k, a, b)

pub hex_same_4 : (m n : ℕ) → m < 2 ^ 16 → n < 2 ^ 16 → hex_digits 4 m ≡ hex_digits 4 n → m ≡ n
hex_same_4 m n h k e = let s = same_digits 4 m n e in let a = s.0 in let b = s.1.0 in let c = s.1.1.0 in let d = s.1.1.1.0 in omega (arith, h, k, a, b, c, d)

pub hex_same_6 : (m n : ℕ) → m < 2 ^ 24 → n < 2 ^ 24 → hex_digits 6 m ≡ hex_digits 6 n → m ≡ n
hex_same_6 m n h k e =
    let s = same_digits 6 m n e in
    let a = s.0 in let b = s.1.0 in let c = s.1.1.0 in let d = s.1.1.1.0 in let f = s.1.1.1.1.0 in let g = s.1.1.1.1.1.0 in
    omega (arith, h, k, a, b, c, d, f, g)

pub hex_same_8 : (m n : ℕ) → m < 2 ^ 32 → n < 2 ^ 32 → hex_digits 8 m ≡ hex_digits 8 n → m ≡ n
hex_same_8 m n h k e =
    let s = same_digits 8 m n e in
    let a = s.0 in let b = s.1.0 in let c = s.1.1.0 in let d = s.1.1.1.0 in let f = s.1.1.1.1.0 in let g = s.1.1.1.1.1.0 in let i = s.1.1.1.1.1.1.0 in let j = s.1.1.1.1.1.1.1.0 in
    omega (arith, h, k, a, b, c, d, f, g, i, j)

-- ---- bytes

abbrev pub EachByte : List ℕ → Type 0
EachByte bytes = AllByRecursion (λ (b : ℕ). b < 256) bytes

pub bytes_word : (bytes : List ℕ) → IsWord (hex_text bytes)
bytes_word [] = tt
bytes_word (b ∷ bytes) = all_append (λ (c : ℕ). 32 < c) (hex_digits 2 b) (hex_text bytes) (hex_word 2 b) (bytes_word bytes)

-- digits of as many bytes
pub bytes_same : (u v xs ys : List ℕ) → EachByte u → EachByte v → length u ≡ length v → hex_text u ++ xs ≡ hex_text v ++ ys → (u ≡ v) × (xs ≡ ys)
bytes_same [] [] xs ys h k n e = (refl, e)
bytes_same [] (b ∷ v) xs ys h k n e = absurd (omega (arith, n))
bytes_same (a ∷ u) [] xs ys h k n e = absurd (omega (arith, n))
bytes_same (a ∷ u) (b ∷ v) xs ys h k n e =
    let one : hex_digits 2 a ≡ hex_digits 2 b = cc in
    let rest : hex_text u ++ xs ≡ hex_text v ++ ys = cc in
    let same = hex_same_2 a b h.0 k.0 one in
    let more = bytes_same u v xs ys h.1 k.1 (omega (arith, n)) rest in
    (λ i. same i ∷ more.0 i, more.1)

high_first : (k n : ℕ) → EachByte (bytes_high_first k n)
high_first zero n = tt
high_first (suc zero) n = (omega arith, tt)
high_first (suc (suc k)) n = (omega arith, high_first (suc k) n)

pub digest_each : (h : List ℕ) (n : ℕ) → EachByte (digest_bytes h n)
unfolding digest_bytes
digest_each h zero = tt
digest_each h (suc n) = all_append (λ (b : ℕ). b < 256) (digest_bytes h n) (bytes_high_first 4 (slice_index h n)) (digest_each h n) (high_first 4 (slice_index h n))

pub sha256_each : (m : List ℕ) → EachByte (sha256 m)
unfolding sha256
sha256_each m = digest_each _ 8
