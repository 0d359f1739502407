-- Laws of how the samples of two tracks lie beside each other.
use Rattle.std.specs.Prelude.{◌≡◌, ◌↔◌, ℕ, ◌+◌, ◌≤◌, List, [], length, Option, None, Some}
use Rattle.mp4_present.specs.format.Presentation.{Track}
use Rattle.mp4_content.specs.format.Alignment.{AreAligned, IsPairAligned}
use Rattle.mp4_content.specs.format.Remaining.{remaining_samples}
use Rattle.mp4_content.specs.declared.aligning.Alignment.{Alignment}
use Rattle.mp4_content.specs.declared.without.Without.{Without}

-- Nothing is said of two tracks exactly if what is left of their samples is the same.
abbrev pub NothingIsSame : Type 0
NothingIsSame = (l : Without) (number : ℕ) (t u : Track) (found : Option Alignment)
    → IsPairAligned l number t u found
    → (found ≡ None) ↔ (remaining_samples l t ≡ remaining_samples l u)

-- What is the same in front and at the end doesn't overlap in either track.
abbrev pub FrontAndEndFit : Type 0
FrontAndEndFit = (l : Without) (number : ℕ) (t u : Track) (a : Alignment)
    → IsPairAligned l number t u (Some a)
    → (a.front + a.end ≤ length t.samples) × (a.front + a.end ≤ length u.samples)

-- There is one answer: fronts and ends are the longest.
abbrev pub AlignmentIsOne : Type 0
AlignmentIsOne = (l : Without) (number : ℕ) (ts us : List Track) (found other : List Alignment)
    → AreAligned l number ts us found → AreAligned l number ts us other → found ≡ other

-- Nothing is said of tracks beside themselves.
abbrev pub NothingBesideItself : Type 0
NothingBesideItself = (l : Without) (number : ℕ) (ts : List Track) (found : List Alignment)
    → AreAligned l number ts ts found → found ≡ []
