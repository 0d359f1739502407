-- Lines of lists of sums, read back.
use Rattle.std.proofs.Common.{◌≡◌, ◌∙◌, ◌⊎◌, inl, inr, ◌++◌, ℕ, ◌+◌, ◌/◌, ◌%◌, ◌^◌, ◌<◌, ◌≤◌, List, [], ◌∷◌, length, take, drop, refl, sym, ap, subst, arith, take_at, drop_at, length-append}
use Rattle.std.specs.Prelude.{Bool, true, false, if◌then◌else◌, ◌==◌, codes, Option, Some, Vec}
use Rattle.std.specs.declared.alloc.Global.{Global}
use Rattle.std.proofs.lemmas.List.{append_cancel_right}
use Rattle.std.proofs.lemmas.Bool.Decides.{nat_tests}
use Rattle.mp4_answers.specs.format.SumLines.{escaped_name, is_escaped, sum_of_name}
use Rattle.mp4_answers.specs.words.SpelledNames.{IsName, IsSpelled}
use Rattle.mp4_answers.specs.format.Texts.{hex_digit, hex_text}
use Rattle.mp4_answers.proofs.SumsRead.{hex_length}

pub hex_long : (digest : List ℕ) → length digest ≡ 32 → length (hex_text digest) ≡ 64
hex_long digest len = omega (arith, hex_length digest, len)

pub line_long : (line digest spelled : List ℕ) → length digest ≡ 32 → 0 < length spelled → line ≡ hex_text digest ++ 32 ∷ 32 ∷ spelled → 67 ≤ length line
line_long line digest spelled len some is =
    let n = ap length is in
    omega (arith, n, length-append (hex_text digest) (32 ∷ 32 ∷ spelled), hex_long digest len, some)

pub digits_there : (line digest spelled : List ℕ) → length digest ≡ 32 → line ≡ hex_text digest ++ 32 ∷ 32 ∷ spelled → take 64 line ≡ hex_text digest
digits_there line digest spelled len is = ap (take 64) is ∙ take_at (hex_text digest) (32 ∷ 32 ∷ spelled) 64 (hex_long digest len)

pub rest_there : (line digest spelled : List ℕ) → length digest ≡ 32 → line ≡ hex_text digest ++ 32 ∷ 32 ∷ spelled → drop 64 line ≡ 32 ∷ 32 ∷ spelled
rest_there line digest spelled len is = ap (drop 64) is ∙ drop_at (hex_text digest) (32 ∷ 32 ∷ spelled) 64 (hex_long digest len)

-- a name that was read is the one that is spelled
pub name_read : (is_escaped : Bool) (found spelled name : List ℕ) (read : Option (Vec ℕ Global)) → found ≡ spelled → IsSpelled is_escaped spelled name → (is_escaped ≡ false → IsName found read)
    → ((n : List ℕ) → is_escaped ≡ true → found ≡ escaped_name n → IsName n read) → IsName name read
name_read true found spelled name read f s plain escaped = escaped name refl (f ∙ s)
name_read false found spelled name read f s plain escaped = subst (λ (xs : List ℕ). IsName xs read) (f ∙ s) (plain refl)

pub same_digest : (d e : List ℕ) → Some d ≡ Some e → d ≡ e
same_digest d e s = cc

-- ---- how a line begins

-- a line that `sum` writes, without its line feed: behind a backslash, or not
abbrev pub IsLine : List ℕ → List ℕ → List ℕ → Type 0
IsLine line name digest = (line ≡ 92 ∷ (hex_text digest ++ 32 ∷ 32 ∷ escaped_name name)) ⊎ (line ≡ hex_text digest ++ 32 ∷ 32 ∷ name)

spaced : (hex name : List ℕ) → hex ++ codes "  " ++ name ++ 10 ∷ [] ≡ (hex ++ 32 ∷ 32 ∷ name) ++ 10 ∷ []
spaced [] name = refl
spaced (d ∷ hex) name = ap (λ (xs : List ℕ). d ∷ xs) (spaced hex name)

forms : (b : Bool) (line name digest : List ℕ) → line ++ 10 ∷ [] ≡ (if b then codes "\\" ++ hex_text digest ++ codes "  " ++ escaped_name name ++ 10 ∷ [] else hex_text digest ++ codes "  " ++ name ++ 10 ∷ []) → IsLine line name digest
forms true line name digest e = inl (append_cancel_right line (92 ∷ (hex_text digest ++ 32 ∷ 32 ∷ escaped_name name)) (10 ∷ []) (e ∙ ap (λ (xs : List ℕ). 92 ∷ xs) (spaced (hex_text digest) (escaped_name name))))
forms false line name digest e = inr (append_cancel_right line (hex_text digest ++ 32 ∷ 32 ∷ name) (10 ∷ []) (e ∙ spaced (hex_text digest) name))

pub line_is : (line name digest : List ℕ) → line ++ 10 ∷ [] ≡ sum_of_name name digest 10 → IsLine line name digest
line_is line name digest e = forms (is_escaped name) line name digest e

digit_small : (d : ℕ) → d < 16 → (hex_digit d ≡ 35 → ⊥) × (hex_digit d ≡ 92 → ⊥)
digit_small d lt = (λ e. grind (arith, nat_tests), λ e. grind (arith, nat_tests))

-- it begins with a hexadecimal digit, which is neither a number sign nor a backslash
pub first_digit : (line digest tail : List ℕ) (first : ℕ) (rest : List ℕ) → length digest ≡ 32 → line ≡ hex_text digest ++ tail → line ≡ first ∷ rest → (first ≡ 35 → ⊥) × (first ≡ 92 → ⊥)
first_digit line [] tail first rest len is e = absurd (omega (arith, len))
first_digit line (b ∷ digest) tail first rest len is e =
    let here : hex_digit (b / 16 ^ 1 % 16) ≡ first = (let two : hex_digit (b / 16 ^ 1 % 16) ∷ (hex_digit (b / 16 ^ 0 % 16) ∷ (hex_text digest ++ tail)) ≡ first ∷ rest = sym is ∙ e in cc) in
    subst (λ (n : ℕ). (n ≡ 35 → ⊥) × (n ≡ 92 → ⊥)) here (digit_small (b / 16 ^ 1 % 16) (omega arith))

escaped_some : (is_feed is_return is_slash : Bool) (b : ℕ) (more : List ℕ) → 0 < length ((if is_feed then codes "\\n" else if is_return then codes "\\r" else if is_slash then codes "\\\\" else b ∷ []) ++ more)
escaped_some true y z b more = omega arith
escaped_some false true z b more = omega arith
escaped_some false false true b more = omega arith
escaped_some false false false b more = omega arith

pub escaped_long : (name : List ℕ) → 0 < length name → 0 < length (escaped_name name)
escaped_long [] lt = lt
escaped_long (b ∷ name) lt = escaped_some (b == 10) (b == 13) (b == 92) b (escaped_name name)

pub behind_slash : (line rest text : List ℕ) → line ≡ 92 ∷ rest → line ≡ 92 ∷ text → rest ≡ text
behind_slash line rest text e f = cc

pub first_same : (line rest more : List ℕ) (first other : ℕ) → line ≡ first ∷ rest → line ≡ other ∷ more → first ≡ other
first_same line rest more first other e f = cc
