-- Zeros in the place of bytes.
use Rattle.std.proofs.Common.{◌≡◌, ℕ, zero, suc, ◌+◌, ◌<◌, ◌≤◌, List, [], ◌∷◌, length, refl, sym, ap, ◌∙◌, arith, slice_set}
use Rattle.mp4_content.specs.format.Zeros.{zeroed}

-- in the place of none
pub zero_none : (from : ℕ) (bytes : List ℕ) → zeroed from 0 bytes ≡ bytes
zero_none from [] = refl
zero_none zero (b ∷ bytes) = refl
zero_none (suc from) (b ∷ bytes) = ap (λ bs. b ∷ bs) (zero_none from bytes)

-- in the place of one more
zero_one : (from k at : ℕ) (bytes : List ℕ) → at ≡ from + k → at < length bytes → slice_set (zeroed from k bytes) at 0 ≡ zeroed from (suc k) bytes
zero_one from k at [] e lt = absurd (omega (arith, lt))
zero_one zero zero zero (b ∷ bytes) e lt = ap (λ bs. 0 ∷ bs) (sym (zero_none 0 bytes))
zero_one zero zero (suc at) (b ∷ bytes) e lt = absurd (omega (arith, e))
zero_one zero (suc k) zero (b ∷ bytes) e lt = absurd (omega (arith, e))
zero_one zero (suc k) (suc at) (b ∷ bytes) e lt = ap (λ bs. 0 ∷ bs) (zero_one zero k at bytes (omega (arith, e)) (omega (arith, lt)))
zero_one (suc from) k zero (b ∷ bytes) e lt = absurd (omega (arith, e))
zero_one (suc from) k (suc at) (b ∷ bytes) e lt = ap (λ bs. b ∷ bs) (zero_one from k at bytes (omega (arith, e)) (omega (arith, lt)))

pub zero_more : (from k : ℕ) (bytes : List ℕ) → from + k < length bytes → slice_set (zeroed from k bytes) (from + k) 0 ≡ zeroed from (k + 1) bytes
zero_more from k bytes lt = let n : suc k ≡ k + 1 = omega arith in zero_one from k (from + k) bytes refl lt ∙ ap (λ n. zeroed from n bytes) n

-- and of those behind the last, which are none
pub zero_enough : (from k n : ℕ) (bytes : List ℕ) → length bytes ≤ from + k → k ≤ n → zeroed from k bytes ≡ zeroed from n bytes
zero_enough from k n [] le few = refl
zero_enough zero zero n (b ∷ bytes) le few = absurd (omega (arith, le))
zero_enough zero (suc k) zero (b ∷ bytes) le few = absurd (omega (arith, few))
zero_enough zero (suc k) (suc n) (b ∷ bytes) le few = ap (λ bs. 0 ∷ bs) (zero_enough zero k n bytes (omega (arith, le)) (omega (arith, few)))
zero_enough (suc from) k n (b ∷ bytes) le few = ap (λ bs. b ∷ bs) (zero_enough from k n bytes (omega (arith, le)) few)

-- they are as many
pub zeroed_length : (from count : ℕ) (bytes : List ℕ) → length (zeroed from count bytes) ≡ length bytes
zeroed_length from count [] = refl
zeroed_length zero zero (b ∷ bytes) = refl
zeroed_length zero (suc count) (b ∷ bytes) = let more = zeroed_length zero count bytes in omega (arith, more)
zeroed_length (suc from) count (b ∷ bytes) = let more = zeroed_length from count bytes in omega (arith, more)
