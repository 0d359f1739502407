-- Digits of numbers, written from the last to the first.
use Rattle.std.proofs.Common.{◌≡◌, ℕ, zero, suc, ◌+◌, ◌-◌, ◌*◌, ◌/◌, ◌%◌, ◌^◌, ◌<◌, ◌≤◌, Bool, true, ◌&&◌, T, eqb, List, ◌∷◌, ◌++◌, length, get_or, decimal, refl, ◌∙◌, inl, inr, arith, eq-zero-or-pos, eqb→eq, append_assoc}
use Rattle.std.proofs.lemmas.Fmt.{decimal_step_wide, length-decimal-le_wide}
use Rattle.std.proofs.Math.Nat.{pow-suc, div-div-eq-div-mul}
use lib.Ieee.Fits.{and_l, and_r}
use Rattle.mp4_answers.specs.words.Pairs.{pair}
use Rattle.mp4_answers.specs.declared.text.digits.TheConstants.{PAIRS}

-- the last digit of a number stands behind those of its tenth
pub last_digit : (n : ℕ) (behind : List ℕ) → 10 ≤ n → n < 10 ^ 64 → decimal (n / 10) ++ (48 + n % 10) ∷ behind ≡ decimal n ++ behind
last_digit n behind some small = rw (decimal_step_wide n some small, append_assoc) refl

-- the table has the two digits of each number
abbrev are_pairs : ℕ → Bool
are_pairs zero = true
are_pairs (suc p) = (eqb (get_or PAIRS (p * 2) 0) (48 + p / 10) && eqb (get_or PAIRS (p * 2 + 1) 0) (48 + p % 10)) && are_pairs p

below : (n p : ℕ) → T (are_pairs n) → p < n → (get_or PAIRS (p * 2) 0 ≡ 48 + p / 10) × (get_or PAIRS (p * 2 + 1) 0 ≡ 48 + p % 10)
below zero p t h = absurd (omega arith)
below (suc n) p t h =
    elim (eq-zero-or-pos (n - p)) [
      | inl z ↦ let e : p ≡ n = omega arith in let a = and_l _ (are_pairs n) t in rw e (eqb→eq _ _ (and_l _ _ a), eqb→eq _ _ (and_r _ _ a))
      | inr g ↦ below n p (and_r _ (are_pairs n) t) (omega arith)
    ]

pub pairs_at : (p : ℕ) → p < 100 → (get_or PAIRS (p * 2) 0 ≡ 48 + p / 10) × (get_or PAIRS (p * 2 + 1) 0 ≡ 48 + p % 10)
pairs_at p h = below 100 p tt h

-- the last two digits, and the last four
pub decimal_pair : (n : ℕ) → 100 ≤ n → n < 2 ^ 64 → decimal n ≡ decimal (n / 100) ++ pair (n % 100)
decimal_pair n lo hi =
    let a : n / 10 / 10 ≡ n / 100 = omega arith in
    let b : n / 10 % 10 ≡ n % 100 / 10 = omega arith in
    let c : n % 10 ≡ n % 100 % 10 = omega arith in
    rw (decimal_step_wide n (omega arith) (omega arith), decimal_step_wide (n / 10) (omega arith) (omega arith), append_assoc, a, b, ← c) refl

pub decimal_four : (n : ℕ) → 10000 ≤ n → n < 2 ^ 64 → decimal n ≡ decimal (n / 10000) ++ (pair (n % 10000 / 100) ++ pair (n % 10000 % 100))
decimal_four n lo hi =
    let a : n / 100 / 100 ≡ n / 10000 = omega arith in
    let b : n / 100 % 100 ≡ n % 10000 / 100 = omega arith in
    let c : n % 10000 % 100 ≡ n % 100 = omega arith in
    rw (decimal_pair n (omega arith) hi, decimal_pair (n / 100) (omega arith) (omega arith), append_assoc, a, b, c) refl

-- numbers of 32 and of 64 bits
pub length_short : (n : ℕ) → n < 2 ^ 32 → length (decimal n) ≤ 10
length_short n h = length-decimal-le_wide 10 n (omega arith) (omega arith) (omega arith)

pub length_long : (n : ℕ) → n < 2 ^ 64 → length (decimal n) ≤ 20
length_long n h = length-decimal-le_wide 20 n (omega arith) (omega arith) (omega arith)

-- what is left of a number without its last hexadecimal digits
pub sixteenth : (n k : ℕ) → n / 16 ^ k / 16 ≡ n / 16 ^ (k + 1)
sixteenth n k = let s : k + 1 ≡ suc k = omega arith in div-div-eq-div-mul n (16 ^ k) 16 ∙ rw (s, pow-suc 16 k) refl
