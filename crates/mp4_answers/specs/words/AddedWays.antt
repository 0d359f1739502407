-- A way that is added to a text.
use Rattle.std.specs.Prelude.{◌≡◌, ℕ, List, ◌++◌}
use Rattle.mp4_boxes.specs.format.Box.{Box}
use Rattle.mp4_answers.specs.format.Ways.{IsWay}

-- a way on from this box to the place is added
abbrev pub AddsWay : ℕ → Box → List ℕ → List ℕ → Type 0
AddsWay place b old new = (part : List ℕ) × IsWay place b part × (new ≡ old ++ part)
