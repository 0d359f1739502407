-- What it takes to open a file: steps and looks, by what its boxes say and by its bytes.
use Rattle.std.specs.Prelude.{◌≡◌, ℕ, ◌+◌, ◌^◌, ◌≤◌, List, length, map, Result}
use Rattle.mp4_boxes.specs.declared.refusal.Refusal.{Refusal}
use Rattle.mp4_frag.specs.declared.state.TrackState.{TrackState}
use Rattle.mp4_present.specs.declared.own_trafs.OwnTrafs.{OwnTrafs}
use Rattle.mp4_present.specs.words.OwnTrafs.{own_seen, none_noted}
use Rattle.mp4_head.specs.declared.heads.TrackHead.{TrackHead}
use Rattle.mp4_present.specs.words.OpenedMovie.{AreInfosBy}
use Rattle.mp4_present.specs.words.ToOpen.{LooksAtMoofs, LooksToOpen, PassesNoting, WorksToOpen, ids_of}
use Rattle.mp4_present.specs.format.ByBytes.{OpensWithin}
use Rattle.mp4_present.specs.words.WalkSteps.{ChecksWithin, IfNoFault}
use Rattle.mp4_present.specs.declared.track_info.TrackInfo.{TrackInfo}

-- the numbers of these tracks in these states, with their IDs
pub record HaveInfos (heads : List TrackHead) (states : List TrackState) (tracks : List TrackInfo)
    : Type 0 where
  pub each : length tracks ≡ length heads
  pub ids : ids_of tracks ≡ map (λ (t : TrackHead). t.id) heads
  pub infos : AreInfosBy heads states tracks

-- Where nothing was noted of the tracks before, this is noted of each track's `traf`s behind all
-- `moof`s.
abbrev pub NotesOn : List ℕ → List TrackState → ℕ → List TrackState → List OwnTrafs
    → List OwnTrafs → Type 0
NotesOn file states room states_after own own_after =
    map own_seen own ≡ map (λ _. none_noted) states
    → PassesNoting file states room states_after (map own_seen own_after)

-- The checks of all `moof`s of a file, for so many tracks: where no fault is found, they take no
-- more steps and looks than the boxes say; and always no more than the bytes allow.
pub record ChecksMoofs {T : Type 0} (file : List ℕ) (tracks : ℕ) (result : Result T Refusal)
    (old new before after : ℕ) : Type 0 where
  pub work : IfNoFault result (ChecksWithin file old new)
  pub within : new ≤ old + (2 ^ 24 + length file)
  pub looks : LooksAtMoofs file tracks result before after

-- the same of all that is checked of a file
pub record ChecksFile {T : Type 0} (file : List ℕ) (result : Result T Refusal)
    (old new before after : ℕ) : Type 0 where
  pub work : WorksToOpen file result old new
  pub within : OpensWithin file old new
  pub looks : LooksToOpen file result before after
