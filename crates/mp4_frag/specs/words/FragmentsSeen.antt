-- What a clause sees of a `moof` that was accepted, and of walks over the samples of a `traf` and
-- of a `moof`.
use Rattle.std.specs.Prelude.{ℕ, List}
use Rattle.mp4_boxes.specs.format.Box.{Box}
use Rattle.mp4_boxes.specs.words.View.{box_seen}
use Rattle.mp4_frag.specs.declared.places.FragPlace.{FragPlace}
use Rattle.mp4_frag.specs.declared.places.TrafPlace.{TrafPlace}
use Rattle.mp4_frag.specs.declared.state.TrackState.{TrackState}
use Rattle.mp4_frag.specs.declared.view.FragView.{FragView}

-- the `moof`
abbrev pub moof_seen : FragView → Box
moof_seen v = box_seen v.moof

-- the payload of the `traf`, and a place among its samples
pub record CursorSeen : Type 0 where
  pub payload : List ℕ
  pub place : TrafPlace

-- the payload of the `moof` and where it lies in the file, the tracks, and a place among the
-- samples of one of them
pub record FragCursorSeen : Type 0 where
  pub payload : List ℕ
  pub moof : ℕ
  pub tracks : List TrackState
  pub place : FragPlace
