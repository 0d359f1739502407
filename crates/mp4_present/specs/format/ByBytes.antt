-- What it takes to open any file, by its bytes alone. A step is a row, a `traf`, a run or a sample
-- that a check passes; a look finds the track of a `traf` by its ID.
use Rattle.std.specs.Prelude.{◌≡◌, ◌⊎◌, ℕ, min, ◌+◌, ◌*◌, ◌^◌, ◌≤◌, List, length}
use Rattle.mp4_present.specs.format.Denotes.{HasMovie}

-- By bytes, whatever the file says: no step was taken, or its `moov` holds some tracks, and for
-- each of these, and once more, no more than 8 for each byte and each sample that a file may have.
abbrev pub OpensWithin : List ℕ → ℕ → ℕ → Type 0
OpensWithin file old new = (new ≡ old)
    ⊎ ((ids : List ℕ) × HasMovie file ids
    × (new ≤ old + 8 * ((length ids + 1) * (2 ^ 24 + length file))))

-- By bytes, whatever the file says: there was no look, or its `moov` holds a track, and there was
-- no more than one for 8 bytes of the file. However many tracks there are, a `traf` costs one look.
abbrev pub LooksByBytes : List ℕ → ℕ → ℕ → Type 0
LooksByBytes file old new = (new ≡ old)
    ⊎ ((ids : List ℕ) × HasMovie file ids
    × (8 * new ≤ 8 * old + min 1 (length ids) * length file))
