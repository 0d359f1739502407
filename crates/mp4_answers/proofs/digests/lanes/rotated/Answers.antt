use Rattle.std.proofs.Common.{◌≡◌, ◌∷◌, [], ℕ, ◌-◌, ◌*◌, ◌/◌, ◌%◌, ◌^◌, bit_or, arith, refl}
use Rattle.std.proofs.lemmas.Simd.{length-zip2}
use Rattle.mp4_answers.proofs.LaneLaws.{of_one, of_two}
use lib.Lanes.{zip2}
use Rattle.mp4_answers.proofs.digests.lanes.rotated.Goals as goal

pub returns : goal.returns
returns c l lt =
    let x = c.args.x in
    let by = c.args.by in
    let back : ℕ = 32 - by in
    let right = λ (a b : ℕ). a / 2 ^ b in
    let left = λ (a b : ℕ). a * 2 ^ b % 2 ^ 32 in
    let low = zip2 right x (by ∷ by ∷ by ∷ by ∷ []) in
    let high = zip2 left x (back ∷ back ∷ back ∷ back ∷ []) in
    let full = c.fits-x.0 in
    let low_full = length-zip2 right x (by ∷ by ∷ by ∷ by ∷ []) full in
    let high_full = length-zip2 left x (back ∷ back ∷ back ∷ back ∷ []) full in
    let by_is : by % 32 ≡ by = omega (arith, c.requires.part) in
    let back_is : (32 - by) % 32 ≡ back = omega (arith, c.requires.some, c.requires.part) in
    let both = of_two bit_or low high (omega (arith, low_full, full)) (omega (arith, high_full, full)) l lt in
    rw (by_is, back_is, both, of_one right x by full l lt, of_one left x back full l lt) refl
