-- A presentation's tracks beside what was read of them: how long they are, and which limits they
-- pass.
use Rattle.std.specs.Prelude.{◌≡◌, ℕ, ◌<◌, ◌⊎◌, ◌*◌, if◌then◌else◌, List, [], ◌∷◌, take, ⊤, Some, slice_get, codes}
use Rattle.std.specs.Int.{div_ceil}
use Rattle.std.specs.List.{AllByRecursion}
use Rattle.mp4_boxes.specs.format.Bytes.{sum_of}
use Rattle.mp4_boxes.specs.format.Box.{Box}
use Rattle.mp4_boxes.specs.format.BoxFaults.{fault_of}
use Rattle.mp4_boxes.specs.declared.fault.Fault.{Fault}
use Rattle.mp4_boxes.specs.declared.fault.Kind.TheVariants.{TimeTooLarge, MovieTooLarge}
use Rattle.mp4_frag.specs.declared.state.TrackState.{TrackState}
use Rattle.mp4_head.specs.format.Head.{Edit}
use Rattle.mp4_head.specs.words.Seen.{track_seen, movie_seen}
use Rattle.mp4_head.specs.declared.heads.MovieHead.{MovieHead}
use Rattle.mp4_head.specs.declared.heads.TrackHead.{TrackHead}
use Rattle.mp4_present.specs.format.Presentation.{Presentation, Track, IsInTime, says_all, end_time, max_moov, normal_moov_length}

-- the length of a track by its edits, where each says how long it is; else by its samples
abbrev pub length_by : List Edit → ℕ → ℕ → ℕ → ℕ
length_by edits duration timescale own = if says_all edits
    then sum_of (λ (e : Edit). e.segment_duration) edits else div_ceil (duration * timescale) own

-- the head of the track, and the track behind all of its samples
pub record IsMeasured (t : Track) (h : TrackHead) (s : TrackState) : Type 0 where
  pub head : t.head ≡ track_seen h
  pub timescale : 0 < h.media.timescale
  pub start : s.start ≡ t.start
  pub end : s.time ≡ end_time t

abbrev pub AreMeasured : List Track → List TrackHead → List TrackState → Type 0
AreMeasured [] [] [] = ⊤
AreMeasured (t ∷ tracks) (h ∷ heads) (s ∷ states) = IsMeasured t h s
    × AreMeasured tracks heads states
AreMeasured _ _ _ = ⊥

-- these heads and tracks are those of the presentation
pub record IsMeasure (p : Presentation) (head : MovieHead) (states : List TrackState) : Type 0 where
  pub movie : p.movie ≡ movie_seen head
  pub tracks : AreMeasured p.tracks head.tracks.items states

-- the first track that is too long: the k-th
pub record TimeFails (p : Presentation) (head : MovieHead) (f : Fault) : Type 0 where
  pub k : ℕ
  pub t : Track
  pub there : slice_get p.tracks k ≡ Some t
  pub in_time : AllByRecursion (IsInTime p.movie.timescale) (take k p.tracks)
  pub passes : IsInTime p.movie.timescale t → ⊥
  pub h : TrackHead
  pub head_is : slice_get head.tracks.items k ≡ Some h
  pub named : f ≡ record { kind = TimeTooLarge; box_type = codes "tkhd"; offset = h.offset }

-- no track is, and the `moov` of the normal form is
pub record MovieFails (p : Presentation) (moov : Box) (f : Fault) : Type 0 where
  pub in_time : AllByRecursion (IsInTime p.movie.timescale) p.tracks
  pub passes : max_moov < normal_moov_length p
  pub named : f ≡ fault_of MovieTooLarge moov

-- a limit is passed, and none before it
abbrev pub LimitFails : Presentation → MovieHead → Box → Fault → Type 0
LimitFails p head moov f = TimeFails p head f ⊎ MovieFails p moov f
