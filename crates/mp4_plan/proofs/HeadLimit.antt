-- A head of the normal form that is short enough.
use Rattle.std.proofs.Common.{◌≡◌, ℕ, ◌+◌, ◌^◌, ◌≤◌, List, length, refl, arith, length-append}
use Rattle.mp4_head.specs.format.Head.{MovieHead, TrackHead}
use Rattle.mp4_head.specs.words.Parts.{capped}
use Rattle.mp4_head.specs.format.Writing.{ftyp_bytes, moov_bytes, head_bytes}

pub moov_fits : (movie : MovieHead) (tracks : List TrackHead) (mehd n : ℕ) → n ≡ capped (length (head_bytes movie tracks mehd)) → n ≤ 2 ^ 30 + 24 → length (moov_bytes movie tracks mehd) ≤ 2 ^ 30
moov_fits movie tracks mehd n e le =
    let ftyp : length ftyp_bytes ≡ 24 = refl in
    let both = length-append ftyp_bytes (moov_bytes movie tracks mehd) in
    omega (arith, e, le, ftyp, both)
