-- Zeros in the place of bytes, twice, and of bytes that stand before others.
use Rattle.std.proofs.Common.{◌≡◌, ℕ, zero, suc, ◌+◌, ◌<◌, ◌≤◌, List, [], ◌∷◌, ◌++◌, length, take, drop, refl, sym, ap, arith}
use Rattle.std.specs.Prelude.{slice_index}
use Rattle.mp4_boxes.specs.format.Bytes.{AreBytes}
use Rattle.mp4_content.specs.format.Zeros.{zeroed}
use Rattle.mp4_content.proofs.Zeroed.{zero_none}

pub zeroed_taken : (n from count : ℕ) (bytes : List ℕ) → take n (zeroed from count bytes) ≡ zeroed from count (take n bytes)
zeroed_taken n from count [] = none n
  where
    none : (n : ℕ) → take n (zeroed from count []) ≡ zeroed from count (take n [])
    none zero = refl
    none (suc n) = refl
zeroed_taken zero from count (b ∷ bytes) = refl
zeroed_taken (suc n) zero zero (b ∷ bytes) = refl
zeroed_taken (suc n) zero (suc count) (b ∷ bytes) = ap (λ bs. 0 ∷ bs) (zeroed_taken n zero count bytes)
zeroed_taken (suc n) (suc from) count (b ∷ bytes) = ap (λ bs. b ∷ bs) (zeroed_taken n from count bytes)

pub zeroed_twice : (from count : ℕ) (bytes : List ℕ) → zeroed from count (zeroed from count bytes) ≡ zeroed from count bytes
zeroed_twice from count [] = refl
zeroed_twice zero zero (b ∷ bytes) = refl
zeroed_twice zero (suc count) (b ∷ bytes) = ap (λ bs. 0 ∷ bs) (zeroed_twice zero count bytes)
zeroed_twice (suc from) count (b ∷ bytes) = ap (λ bs. b ∷ bs) (zeroed_twice from count bytes)

pub zeroed_turned : (from count at many : ℕ) (bytes : List ℕ) → zeroed from count (zeroed at many bytes) ≡ zeroed at many (zeroed from count bytes)
zeroed_turned from count at many [] = refl
zeroed_turned zero zero at many (b ∷ bytes) = zero_none 0 (zeroed at many (b ∷ bytes))
zeroed_turned zero (suc count) zero zero (b ∷ bytes) = sym (zero_none 0 (zeroed 0 (suc count) (b ∷ bytes)))
zeroed_turned zero (suc count) zero (suc many) (b ∷ bytes) = ap (λ bs. 0 ∷ bs) (zeroed_turned zero count zero many bytes)
zeroed_turned zero (suc count) (suc at) many (b ∷ bytes) = ap (λ bs. 0 ∷ bs) (zeroed_turned zero count at many bytes)
zeroed_turned (suc from) count zero zero (b ∷ bytes) = sym (zero_none 0 (zeroed (suc from) count (b ∷ bytes)))
zeroed_turned (suc from) count zero (suc many) (b ∷ bytes) = ap (λ bs. 0 ∷ bs) (zeroed_turned from count zero many bytes)
zeroed_turned (suc from) count (suc at) many (b ∷ bytes) = ap (λ bs. b ∷ bs) (zeroed_turned from count at many bytes)

pub zeroed_byte : (from count : ℕ) (bytes : List ℕ) → AreBytes bytes → (i : ℕ) → slice_index (zeroed from count bytes) i < 256
zeroed_byte from count [] h i = h i
zeroed_byte zero zero (b ∷ bytes) h i = h i
zeroed_byte zero (suc count) (b ∷ bytes) h zero = omega arith
zeroed_byte zero (suc count) (b ∷ bytes) h (suc i) = zeroed_byte zero count bytes (λ j. h (suc j)) i
zeroed_byte (suc from) count (b ∷ bytes) h zero = h 0
zeroed_byte (suc from) count (b ∷ bytes) h (suc i) = zeroed_byte from count bytes (λ j. h (suc j)) i

-- none behind the others
pub zeroed_before : (from count : ℕ) (xs ys : List ℕ) → from + count ≤ length xs → zeroed from count (xs ++ ys) ≡ zeroed from count xs ++ ys
zeroed_before zero zero [] ys le = zero_none 0 ys
zeroed_before zero (suc count) [] ys le = absurd (omega (arith, le))
zeroed_before (suc from) count [] ys le = absurd (omega (arith, le))
zeroed_before zero zero (x ∷ xs) ys le = refl
zeroed_before zero (suc count) (x ∷ xs) ys le = ap (λ bs. 0 ∷ bs) (zeroed_before zero count xs ys (omega (arith, le)))
zeroed_before (suc from) count (x ∷ xs) ys le = ap (λ bs. x ∷ bs) (zeroed_before from count xs ys (omega (arith, le)))

pub zeroed_dropped : (n from count : ℕ) (bytes : List ℕ) → from + count ≤ n → drop n (zeroed from count bytes) ≡ drop n bytes
zeroed_dropped zero from zero bytes le = zero_none from bytes
zeroed_dropped zero from (suc count) bytes le = absurd (omega (arith, le))
zeroed_dropped (suc n) from count [] le = refl
zeroed_dropped (suc n) zero zero (b ∷ bytes) le = refl
zeroed_dropped (suc n) zero (suc count) (b ∷ bytes) le = zeroed_dropped n zero count bytes (omega (arith, le))
zeroed_dropped (suc n) (suc from) count (b ∷ bytes) le = zeroed_dropped n from count bytes (omega (arith, le))
