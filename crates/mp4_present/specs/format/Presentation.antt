-- What a file says apart from its spelling: a movie, its tracks and their samples as plain values.
use Rattle.std.specs.Prelude.{◌≡◌, ℕ, ◌+◌, ◌-◌, ◌*◌, ◌<◌, ◌≤◌, ◌^◌, ◌==◌, max, Bool, true, false, not, List, [], length, map, flat_map, fold, Option, Some, None, ℤ, FitsSigned, if◌then◌else◌}
use Rattle.std.specs.Int.{w32, div_ceil}
use Rattle.std.specs.List.{AllByRecursion, list_any}
use Rattle.mp4_boxes.specs.format.Bytes.{sum_of, AreBytes}
use Rattle.mp4_tables.specs.format.Groups.{GroupKey, Groups, keys_with, is_in_order, max_keys, max_index}
use Rattle.mp4_head.specs.format.Head.{MovieHead, TrackHead, Edit, IsMovieHead, IsTrackHead}
use Rattle.mp4_head.specs.format.Tree.{are_distinct}
use Rattle.mp4_head.specs.format.Writing.{moov_bytes}

-- a sample: its duration, composition offset, flags, description index, bytes, and its index at
-- each key by which it is grouped
pub record Sample : Type 0 where
  pub duration : ℕ
  pub offset : ℤ
  pub flags : ℕ
  pub description : ℕ
  pub bytes : List ℕ
  pub groups : Groups

-- a track: what its `trak` says apart from tables, the decode time of its first sample, its samples
pub record Track : Type 0 where
  pub head : TrackHead
  pub start : ℕ
  pub samples : List Sample

-- a movie, with its tracks in the order of `moov`
pub record Presentation : Type 0 where
  pub movie : MovieHead
  pub tracks : List Track

abbrev pub heads : Presentation → List TrackHead
heads p = map (λ (t : Track). t.head) p.tracks

abbrev pub total_duration : List Sample → ℕ
total_duration samples = sum_of (λ (s : Sample). s.duration) samples

-- where the last sample ends
abbrev pub end_time : Track → ℕ
end_time t = t.start + total_duration t.samples

abbrev pub sample_total : Presentation → ℕ
sample_total p = sum_of (λ (t : Track). length t.samples) p.tracks

-- how long a track is on the movie's time line: by its edits, where each of them says how long it
-- is; else by its samples, rounded up
abbrev pub says_all : List Edit → Bool
says_all [] = false
says_all edits = not (list_any (λ (e : Edit). e.segment_duration == 0) edits)

abbrev pub track_length : ℕ → Track → ℕ
track_length timescale t =
    if says_all t.head.edits then sum_of (λ (e : Edit). e.segment_duration) t.head.edits
    else div_ceil (total_duration t.samples * timescale) t.head.media.timescale

-- the largest of them
abbrev pub movie_length : Presentation → ℕ
movie_length p = fold (λ longest (t : Track). max longest (track_length p.movie.timescale t))
    0 p.tracks

-- the length of the `moov` in the normal form
abbrev pub normal_moov_length : Presentation → ℕ
normal_moov_length p = length (moov_bytes p.movie (heads p) (movie_length p))

-- ---- limits

abbrev pub max_samples : ℕ
max_samples = 2 ^ 24

abbrev pub max_time : ℕ
max_time = 2 ^ 63 - 1

abbrev pub max_moov : ℕ
max_moov = 2 ^ 30

abbrev pub IsInTime : ℕ → Track → Type 0
IsInTime timescale t = (end_time t ≤ max_time) × (track_length timescale t ≤ max_time)

pub record IsWithinLimits (p : Presentation) : Type 0 where
  pub samples : sample_total p ≤ max_samples
  pub times : AllByRecursion (IsInTime p.movie.timescale) p.tracks
  pub moov : normal_moov_length p ≤ max_moov

-- ---- what is a presentation at all

abbrev pub IsParameter : Option ℕ → Type 0
IsParameter None = Unit {0}
IsParameter (Some n) = n < 2 ^ 32

-- an index at a key
pub record IsGroup (group : GroupKey × ℕ) : Type 0 where
  pub kind_length : length group.0.kind ≡ 4
  pub kind : AreBytes group.0.kind
  pub parameter : IsParameter group.0.parameter
  pub index_from_1 : 1 ≤ group.1
  pub index : group.1 ≤ max_index

pub record IsSample (descriptions : ℕ) (s : Sample) : Type 0 where
  pub duration : s.duration < 2 ^ 32
  pub offset : FitsSigned w32 s.offset
  pub flags : s.flags < 2 ^ 28
  pub description_from_1 : 1 ≤ s.description
  pub description : s.description ≤ descriptions
  pub bytes : AreBytes s.bytes
  pub size : length s.bytes < 2 ^ 32
  pub groups : AllByRecursion IsGroup s.groups
  pub groups_in_order : is_in_order s.groups ≡ true

-- the keys of a track's samples, each once
abbrev pub keys_of : List Sample → List GroupKey
keys_of samples =
    keys_with [] (flat_map (λ (s : Sample). map (λ (group : GroupKey × ℕ). group.0) s.groups)
    samples)

pub record IsTrack (t : Track) : Type 0 where
  pub head : IsTrackHead t.head
  pub samples : AllByRecursion (IsSample (length t.head.media.descriptions)) t.samples
  pub keys : length (keys_of t.samples) ≤ max_keys
  pub empty : t.samples ≡ [] → t.start ≡ 0

-- each number is in the range of its field, each index names a description, and the limits hold
pub record Valid (p : Presentation) : Type 0 where
  pub movie : IsMovieHead p.movie
  pub tracks : AllByRecursion IsTrack p.tracks
  pub ids : are_distinct (map (λ (h : TrackHead). h.id) (heads p)) ≡ true
  pub limits : IsWithinLimits p
