-- Bytes of a file over which a word is laid at some places.
use Rattle.std.specs.Prelude.{ℕ, ◌+◌, ◌≤◌, List, [], ◌∷◌, slice_set}
use Rattle.std.specs.List.{All}
use Rattle.std.specs.List.Sorted.{IsNonDecreasing}

-- a word, byte by byte, from a place on
abbrev pub laid_at : List ℕ → ℕ → List ℕ → List ℕ
laid_at [] place file = file
laid_at (byte ∷ word) place file = laid_at word (place + 1) (slice_set file place byte)

-- at one place after the other
abbrev pub laid : List ℕ → List ℕ → List ℕ → List ℕ
laid word [] file = file
laid word (place ∷ places) file = laid word places (laid_at word place file)

-- four bytes from the place on are among so many
abbrev pub HasRoom : ℕ → ℕ → Type 0
HasRoom len place = place + 4 ≤ len

-- places that rise, of four bytes each among so many
abbrev pub ArePlaces : ℕ → List ℕ → Type 0
ArePlaces len places = IsNonDecreasing places × All (HasRoom len) places
