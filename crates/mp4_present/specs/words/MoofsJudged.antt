-- The first fault of the `moof`s of a file is named.
use Rattle.std.specs.Prelude.{◌≡◌, ℕ, List, [], length, codes, Result, Ok, Err, MatchResult}
use Rattle.mp4_boxes.specs.format.Box.{Box}
use Rattle.mp4_boxes.specs.format.Children.{of_kind}
use Rattle.mp4_boxes.specs.declared.refusal.Refusal.{Refusal}
use Rattle.mp4_boxes.specs.declared.refusal.Refusal.TheVariants as refusals
use Rattle.mp4_frag.specs.declared.state.TrackState.{TrackState}
use Rattle.mp4_head.specs.format.Tree.{MovieTree}
use Rattle.mp4_present.specs.format.Judge.{moofs_or_fault}
use Rattle.mp4_present.specs.words.PassedMoofs.{IsBegun, IsPassed}

-- where it refuses by a fault, by the first of these `moof`s behind the tables, where there is room
-- for so many samples
abbrev pub RefusesMoofs : List ℕ → MovieTree → ℕ → List Box → Refusal → Type 0
RefusesMoofs file movie room moofs (refusals.Fault f) =
    moofs_or_fault (length file) movie (record { parts = []; room = room }) moofs ≡ Err f
RefusesMoofs file movie room moofs _ = Unit {0}

-- these `moof`s have no fault, and all were passed
pub record PassesMoofs (file : List ℕ) (movie : MovieTree) (boxes : List Box) (room : ℕ)
    (states : List TrackState) : Type 0 where
  pub passed : IsPassed file movie boxes states
  pub judged : moofs_or_fault (length file) movie (record { parts = []; room = room })
      (of_kind (codes "moof") boxes) ≡ Ok passed.fragments

-- Whatever the movie and its boxes are: where the tracks are behind their tables before, an answer
-- names the first fault of the `moof`s, and is Ok only where there is none.
pub record NamesMoofs {T : Type 0} (file : List ℕ) (states : List TrackState) (room : ℕ)
    (states_after : T → List TrackState) (result : Result T Refusal) : Type 0 where
  pub names : (movie : MovieTree) (boxes : List Box) → IsBegun file movie boxes states room
      → MatchResult result (λ x. PassesMoofs file movie boxes room (states_after x))
      (RefusesMoofs file movie room (of_kind (codes "moof") boxes))
