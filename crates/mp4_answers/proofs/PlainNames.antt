-- Names as the system has them.
use Rattle.std.proofs.Common.{◌≡◌, ℕ, zero, suc, ◌+◌, ◌-◌, ◌*◌, ◌<◌, ◌≤◌, List, [], ◌∷◌, length, length-drop, take, drop, get_or, refl, arith}
use Rattle.std.proofs.lemmas.List.{take_all}
use Rattle.mp4_answers.specs.format.SumLines.{digit_value, plain_name}

pub escape_first : (rest : List ℕ) → 2 ≤ length rest → plain_name (0 ∷ rest) ≡ (16 * digit_value (get_or rest 0 0) + digit_value (get_or rest 1 0)) ∷ plain_name (drop 2 rest)
escape_first [] le = absurd (omega (arith, le))
escape_first (b ∷ []) le = absurd (omega (arith, le))
escape_first (b ∷ c ∷ rest) le = refl

pub other_first : (first : ℕ) (rest : List ℕ) → (first ≡ 0 → length rest < 2) → plain_name (first ∷ rest) ≡ first ∷ plain_name rest
other_first zero [] few = refl
other_first zero (b ∷ []) few = refl
other_first zero (b ∷ c ∷ rest) few = absurd (let lt = few refl in omega (arith, lt))
other_first (suc n) rest few = refl

pub plain_none : (word : List ℕ) → length word ≡ 0 → plain_name word ≡ []
plain_none [] e = refl
plain_none (b ∷ word) e = absurd (omega (arith, e))

-- all that is left behind two digits
pub behind_two : (rest : List ℕ) → take (length rest - 2) (drop 2 rest) ≡ drop 2 rest
behind_two rest = take_all (length rest - 2) (drop 2 rest) (omega (arith, length-drop 2 rest))
