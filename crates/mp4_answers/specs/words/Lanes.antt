-- Four messages side by side: the vectors of their states and words, and what stands in a lane.
use Rattle.std.specs.Prelude.{◌≡◌, ℕ, ◌<◌, List, map, take, drop, slice_index}

-- each of the four lanes of a vector
abbrev pub HasLanes : List ℕ → (ℕ → ℕ) → Type 0
HasLanes vector value = (l : ℕ) → l < 4 → slice_index vector l ≡ value l

-- lane l of each of some vectors
abbrev pub lane : ℕ → List (List ℕ) → List ℕ
lane l vectors = map (λ v. slice_index v l) vectors

-- the block that begins at a place
abbrev pub block_at : List ℕ → ℕ → List ℕ
block_at bytes place = take 64 (drop place bytes)
