-- The first fault of a file is named.
use Rattle.std.specs.Prelude.{◌≡◌, ℕ, List, Result, Ok, Err, MatchResult}
use Rattle.mp4_boxes.specs.format.Box.{Box, file_container}
use Rattle.mp4_boxes.specs.format.FirstFault.{top_or_fault}
use Rattle.mp4_boxes.specs.declared.refusal.Refusal.{Refusal}
use Rattle.mp4_boxes.specs.declared.refusal.Refusal.TheVariants as refusals
use Rattle.mp4_present.specs.format.Denotes.{Denotes}
use Rattle.mp4_present.specs.format.Judge.{judge}
use Rattle.mp4_present.specs.format.Presentation.{Presentation}

-- where it refuses by a fault, by the first of the file
abbrev pub RefusesJudged : List ℕ → Refusal → Type 0
RefusesJudged file (refusals.Fault f) = judge file ≡ Err f
RefusesJudged file _ = Unit {0}

-- An answer names the first fault of the file, and is Ok only where it has none; then the file
-- denotes the presentation that is judged. Want of memory and reads that fail say nothing.
pub record NamesJudged {T : Type 0} (file : List ℕ) (result : Result T Refusal) : Type 0 where
  pub names : MatchResult result
      (λ _. (p : Presentation) × (judge file ≡ Ok p) × Denotes file p) (RefusesJudged file)

-- so of a file whose own boxes have no fault
abbrev pub NamesBehindTop : {T : Type 0} → List ℕ → Result T Refusal → Type 0
NamesBehindTop file result = (boxes : List Box) → top_or_fault (file_container file) ≡ Ok boxes
    → NamesJudged file result
