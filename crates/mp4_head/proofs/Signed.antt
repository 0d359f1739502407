-- Signed numbers that are written in two's complement are read again.
use Rattle.std.proofs.Common.{◌≡◌, ℕ, ◌^◌, ◌-◌, ◌<◌, List, [], ◌∷◌, ◌++◌, ℤ, pos, negsuc, suc, zero, length, take, refl, ap, ◌∙◌, arith, true, false, ltb}
use Rattle.std.specs.Prelude.{FitsSigned, map, replicate}
use Rattle.std.specs.Int.{w16, w32, w64}
use Rattle.std.specs.List.{AllByRecursion}
use Rattle.std.proofs.lemmas.Bool.{lt-ltb, le-ltb}
use Rattle.std.proofs.lemmas.Int.{ints}
use Rattle.std.proofs.lemmas.List.{length-map, take_at}
use Rattle.byteorder.specs.Endian.{twos_complement}
use Rattle.mp4_boxes.specs.format.Bytes.{unsigned, FitWidths}
use Rattle.mp4_head.specs.format.Head.{IsMatrix}
use Rattle.mp4_head.proofs.Again.{signed_again}

-- two's complement of two and of eight bytes
pub short_again : (z : ℤ) → FitsSigned w16 z → twos_complement 2 (unsigned 2 z) ≡ z
short_again (pos n) h = let lt : ltb n (2 ^ 15) ≡ true = lt-ltb _ _ h.sfits in rw lt refl
short_again (negsuc n) h =
    let ge : ltb (2 ^ 16 - suc n) (2 ^ 15) ≡ false = le-ltb _ _ (omega (arith, h.sfits)) in
    rw ge (omega (arith, ints))

-- of eight bytes
pub long_again : (z : ℤ) → FitsSigned w64 z → twos_complement 8 (unsigned 8 z) ≡ z
long_again (pos n) h = let lt : ltb n (2 ^ 63) ≡ true = lt-ltb _ _ h.sfits in rw lt refl
long_again (negsuc n) h =
    let ge : ltb (2 ^ 64 - suc n) (2 ^ 63) ≡ false = le-ltb _ _ (omega (arith, h.sfits)) in
    rw ge (omega (arith, ints))

-- the number that is written fits
pub short_fits : (z : ℤ) → FitsSigned w16 z → unsigned 2 z < 256 ^ 2
short_fits (pos n) h = omega (arith, h.sfits)
short_fits (negsuc n) h = omega arith

-- of four bytes
pub signed_fits : (z : ℤ) → FitsSigned w32 z → unsigned 4 z < 256 ^ 4
signed_fits (pos n) h = omega (arith, h.sfits)
signed_fits (negsuc n) h = omega arith

-- of eight bytes
pub long_fits : (z : ℤ) → FitsSigned w64 z → unsigned 8 z < 256 ^ 8
long_fits (pos n) h = omega (arith, h.sfits)
long_fits (negsuc n) h = omega arith

-- numbers of four bytes each, in front of others
pub row_fits : (n : ℕ) (zs : List ℤ) (widths values : List ℕ) → length zs ≡ n → AllByRecursion (FitsSigned w32) zs → FitWidths widths values → FitWidths (replicate n 4 ++ widths) (map (unsigned 4) zs ++ values)
row_fits zero [] widths values e h f = f
row_fits zero (z ∷ zs) widths values e h f = absurd (omega (arith, e))
row_fits (suc n) [] widths values e h f = absurd (omega (arith, e))
row_fits (suc n) (z ∷ zs) widths values e h f = (signed_fits z h.0, row_fits n zs widths values (omega (arith, e)) h.1 f)

-- numbers of four bytes each are read again
pub row_again : (zs : List ℤ) → AllByRecursion (FitsSigned w32) zs → map (twos_complement 4) (map (unsigned 4) zs) ≡ zs
row_again [] h = refl
row_again (z ∷ zs) h = λ i. signed_again z h.0 i ∷ row_again zs h.1 i

-- a matrix in front of others
pub matrix_again : (zs : List ℤ) (values : List ℕ) → IsMatrix zs → map (twos_complement 4) (take 9 (map (unsigned 4) zs ++ values)) ≡ zs
matrix_again zs values h = ap (map (twos_complement 4)) (take_at (map (unsigned 4) zs) values 9 (length-map zs (unsigned 4) ∙ h.nine)) ∙ row_again zs h.fits
