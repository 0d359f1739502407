-- Short forms in which vectors of faults are written.
use Rattle.std.proofs.Common.{◌≡◌, ℕ, ◌≤◌, false, List, leb}
use Rattle.std.proofs.lemmas.Bool.{le-leb}
use Rattle.mp4_boxes.specs.format.Box.{Header}
use Rattle.mp4_boxes.proofs.Plain.{true_false}

-- a header of 8 bytes
abbrev pub says : List ℕ → ℕ → Header
says kind size = record { kind = kind; length = 8; size = size }

-- a number that the test says is not within another
pub beyond : (a b : ℕ) → a ≤ b → leb a b ≡ false → ⊥
beyond a b h e = true_false (leb a b) (le-leb a b h) e
