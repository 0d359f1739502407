-- Why tracks are not told to wait, and what is measured of them for that.
use Rattle.std.specs.Prelude.{◌≡◌, ℕ, ◌+◌, ◌<◌, ◌≤◌, List, None}
use Rattle.std.specs.List.{AllByRecursion, AllZip}
use Rattle.mp4_boxes.specs.declared.refusal.Refusal.{Refusal}
use Rattle.mp4_boxes.specs.declared.refusal.Refusal.TheVariants as refusals
use Rattle.mp4_frag.specs.declared.state.TrackState.{TrackState}
use Rattle.mp4_head.specs.format.Tree.{TrackTree, track_head_of}
use Rattle.mp4_head.specs.declared.heads.MovieHead.{MovieHead}
use Rattle.mp4_present.specs.format.Denotes.{FileTree, presentation_of}
use Rattle.mp4_present.specs.format.Presentation.{Presentation, IsInTime, max_moov, movie_length, normal_moov_length}
use Rattle.mp4_present.specs.words.HeadsRead.{SaysMovie, SaysTree}
use Rattle.mp4_present.specs.words.Measured.{LimitFails}
use Rattle.mp4_present.specs.words.Movies.{MovieSeen, moov_box}
use Rattle.mp4_present.specs.words.OpenedMovie.{IsInfoOf}
use Rattle.mp4_present.specs.words.ToldTrees.{IsFileTold}
use Rattle.mp4_present.specs.declared.track_info.TrackInfo.{TrackInfo}

-- the track behind all of its samples
abbrev pub end_of : TrackInfo → TrackState
end_of info = record {
  id = info.id;
  descriptions = 0;
  trex = None;
  start = info.start;
  count = info.samples;
  time = info.start + info.duration;
  bytes = info.bytes;
  keys = info.keys;
}

-- what the movie says is said of these boxes, and its numbers are those of their tracks
pub record HasLimits (file : List ℕ) (m : MovieSeen) (t : FileTree) : Type 0 where
  pub heads : (head : MovieHead) → SaysMovie m head → SaysTree t.movie head
  pub moov : moov_box m ≡ t.movie.moov
  pub tracks : AllZip (IsInfoOf file t) t.movie.tracks m.tracks
  pub timescales : AllByRecursion (λ (track : TrackTree).
      0 < (track_head_of track).media.timescale) t.movie.tracks

-- no track is too long, the longest is so long, and the `moov` isn't too long
pub record PassesNoLimit (n : ℕ) (p : Presentation) : Type 0 where
  pub times : AllByRecursion (IsInTime p.movie.timescale) p.tracks
  pub longest : n ≡ movie_length p
  pub moov : normal_moov_length p ≤ max_moov

-- a fault is that of the first limit that is passed
abbrev pub NamesLimit : List ℕ → FileTree → Refusal → Type 0
NamesLimit file t (refusals.Fault f) = (head : MovieHead) × SaysTree t.movie head
    × LimitFails (presentation_of file t) head t.movie.moov f
NamesLimit file t _ = Unit {0}

-- the same of a file whose tracks wait so long
abbrev pub NamesLimitOf : List ℕ → List ℕ → FileTree → Refusal → Type 0
NamesLimitOf file waits t r = (told : FileTree) × IsFileTold waits t told × NamesLimit file told r

-- why tracks are not told to wait
abbrev pub RefusesWaits : Refusal → Type 0
RefusesWaits (refusals.Fault f) = Unit {0}
RefusesWaits refusals.Memory = Unit {0}
RefusesWaits refusals.StoreChanged = Unit {0}
RefusesWaits _ = ⊥
