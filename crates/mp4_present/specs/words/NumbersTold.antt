-- What is told of a fault in numbers.
use Rattle.std.specs.Prelude.{ℕ, ◌+◌, ◌-◌, ◌*◌, ◌<◌, ◌≤◌, ◌≡◌, ◌==◌, find, Some, List}
use Rattle.mp4_boxes.specs.format.Box.{Box}
use Rattle.mp4_frag.specs.format.Fragments.{FragmentTree}
use Rattle.mp4_frag.specs.declared.state.TrackState.{TrackState}
use Rattle.mp4_head.specs.format.Tree.{MovieTree}
use Rattle.mp4_present.specs.format.FaultNumbers.{IsChildOf, SaysTime}
use Rattle.mp4_present.specs.words.Passing.{AreBehind, IsNextMoof}
use Rattle.mp4_present.specs.declared.faults.FaultNumbers.{FaultNumbers}
use Rattle.mp4_present.specs.declared.faults.FaultNumbers.TheVariants as numbers

-- looks, and a place from which bytes of the file are left: 8 of these count once; `tracks` is 1,
-- or 0 where there is none
abbrev pub LooksFit : ℕ → ℕ → ℕ → ℕ → ℕ → Type 0
LooksFit file_length at tracks old new = 8 * new + tracks * (file_length - at) ≤ 8 * old
    + tracks * file_length

-- this `moof` of the file comes next, and these are the tracks behind all that comes before it
pub record ComesNext (file : List ℕ) (movie : MovieTree) (moof : Box) (room : ℕ)
    (states : List TrackState) : Type 0 where
  pub earlier : List FragmentTree
  pub before : List Box
  pub next : IsNextMoof file movie earlier before moof
  pub behind : AreBehind file movie earlier states room

-- what is due of the track that a `traf` names, where the tracks stand so, and what it says
pub record TellsGap (traf : Box) (states : List TrackState) (place track due found : ℕ)
    : Type 0 where
  pub says : (moof : Box) → IsChildOf moof traf → SaysTime moof place traf track found
  pub state : TrackState
  pub found_state : find (λ (t : TrackState). t.id == track) states ≡ Some state
  pub due_is : due ≡ state.time

-- numbers that are told without the fragments before: counts; and a sample that passes the end of
-- a file of this length
abbrev pub IsPlain : ℕ → FaultNumbers → Type 0
IsPlain file_length (numbers.Gap track due found) = ⊥
IsPlain file_length (numbers.Counts counted wanted) = Unit {0}
IsPlain file_length (numbers.Outside at size told_length) = (told_length ≡ file_length)
    × (file_length < at + size)

-- what is told of a `traf` that is refused for a fault at a place, behind tracks that stand so
abbrev pub TellsTraf : Box → List TrackState → ℕ → ℕ → FaultNumbers → Type 0
TellsTraf traf states file_length place (numbers.Gap track due found) =
    TellsGap traf states place track due found
TellsTraf traf states file_length place n = IsPlain file_length n
