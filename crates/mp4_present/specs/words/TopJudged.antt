-- The first fault of the file's own boxes is named.
use Rattle.std.specs.Prelude.{◌≡◌, ℕ, List, Result, Ok, Err, MatchResult}
use Rattle.mp4_boxes.specs.format.Box.{Box, file_container}
use Rattle.mp4_boxes.specs.format.FirstFault.{top_or_fault}
use Rattle.mp4_boxes.specs.declared.refusal.Refusal.{Refusal}
use Rattle.mp4_boxes.specs.declared.refusal.Refusal.TheVariants as refusals

-- where it refuses by a fault, by the first of the list of these boxes
abbrev pub RefusesTop : List ℕ → Refusal → Type 0
RefusesTop file (refusals.Fault f) = top_or_fault (file_container file) ≡ Err f
RefusesTop file _ = Unit {0}

-- so, and at Ok the list has none
pub record NamesTop {T : Type 0} (file : List ℕ) (result : Result T Refusal) : Type 0 where
  pub names : MatchResult result
      (λ _. (boxes : List Box) × (top_or_fault (file_container file) ≡ Ok boxes)) (RefusesTop file)
