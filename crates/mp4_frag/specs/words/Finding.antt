-- Tracks that are found by their IDs.
use Rattle.std.specs.Prelude.{◌≡◌, ℕ, ◌==◌, List, take, find, slice_get, Option, None}
use Rattle.mp4_frag.specs.declared.state.TrackState.{TrackState}

-- the first track with an ID, if one has it
abbrev pub track_with : ℕ → List TrackState → Option TrackState
track_with id tracks = find (λ (t : TrackState). t.id == id) tracks

-- it stands at this place, and none before it has the ID
pub record IsFirstWith (tracks : List TrackState) (id place : ℕ) : Type 0 where
  pub found : track_with id tracks ≡ slice_get tracks place
  pub first : track_with id (take place tracks) ≡ None
