-- When the next samples of tracks are due, and which tracks have one before a cut.
use Rattle.std.specs.Prelude.{◌≡◌, ◌<◌, ◌≤◌, ℕ, ◌*◌, ◌+◌, ◌^◌, ◌-◌, ◌/◌, max, min, List, length, Option, Some, None, slice_get, slice_index}
use Rattle.mp4_content.specs.declared.tracks_left.TrackLeft.{TrackLeft}
use Rattle.mp4_tables.specs.declared.sample.SampleAt.{SampleAt}
use Rattle.mp4_plan.specs.words.Turns.{track_passed}
use Rattle.mp4_plan.specs.declared.due_tracks.DueTracks.{DueTracks}
use Rattle.mp4_plan.specs.declared.schedule.Schedule.{Schedule}

-- when the next sample of a track is due, as its leaf says
abbrev pub leaf : DueTracks → ℕ → ℕ
leaf d k = slice_index d.least.items (d.leaves + k)

-- in these nodes for so many leaves, one is the lesser of the two below it
abbrev pub IsLesser : List ℕ → ℕ → Type 0
IsLesser least i = slice_index least i ≡ min (slice_index least (2 * i))
    (slice_index least (2 * i + 1))

-- each node above the leaves is the lesser of the two below it
pub record IsDueTree (d : DueTracks) : Type 0 where
  pub many : length d.least.items ≡ 2 * d.leaves
  pub few : d.leaves ≤ 2 ^ 32
  pub each : (i : ℕ) → 0 < i → i < d.leaves → IsLesser d.least.items i

-- the first track from a place on that is due before a cut, if one is
abbrev pub IsFirstBefore : DueTracks → ℕ → ℕ → Option ℕ → Type 0
IsFirstBefore d from cut None = (k : ℕ) → from ≤ k → k < d.leaves → cut ≤ leaf d k
IsFirstBefore d from cut (Some track) = (from ≤ track) × (track < d.leaves)
    × (leaf d track < cut) × ((k : ℕ) → from ≤ k → k < track → cut ≤ leaf d k)

-- a sample of a track with this timescale is due at this time, in that of the first track, rounded
-- down; the time is later than each sample where there is none
abbrev pub IsDue : ℕ → ℕ → Option SampleAt → ℕ → Type 0
IsDue first scale None time = time ≡ 2 ^ 128 - 1
IsDue first scale (Some s) time = (time ≡ s.dts * first / max scale 1) × (time < 2 ^ 128 - 1)

-- when a fragment ends: later than each sample where none follows
abbrev pub cut_at : Option ℕ → ℕ
cut_at None = 2 ^ 128 - 1
cut_at (Some cut) = cut

-- the leaves say when these next samples of the tracks behind the first are due
abbrev pub AreTimes : List TrackLeft → List (Option SampleAt) → ℕ → DueTracks → Type 0
AreTimes tracks nexts first d = (k : ℕ) (track : TrackLeft) (next : Option SampleAt) → 0 < k
    → slice_get tracks k ≡ Some track → slice_get nexts k ≡ Some next
    → IsDue first track.timescale next (leaf d k)

-- From a place in the order of pieces tracks are passed that have no sample before the next cut.
pub data Skips (d : DueTracks) : Schedule → Schedule → Type 0 where
  none : (s : Schedule) → Skips d s s
  one : (s later : Schedule) → 0 < s.track → s.track < s.tracks
      → cut_at s.next ≤ leaf d s.track → Skips d (track_passed s None) later → Skips d s later

-- The track whose turn it is has a sample before the next cut, where it isn't the first.
abbrev pub IsDueHere : Schedule → DueTracks → Type 0
IsDueHere s d = 0 < s.track → s.track < s.tracks
    → (leaf d s.track < cut_at s.next) × (cut_at s.next < 2 ^ 128)

-- the tree of the tracks of a schedule, at a turn
pub record IsDueAt (tracks : List TrackLeft) (nexts : List (Option SampleAt)) (s : Schedule)
    (d : DueTracks) : Type 0 where
  pub tree : IsDueTree d
  pub many : d.leaves ≡ s.tracks
  pub times : AreTimes tracks nexts s.first d
  pub here : IsDueHere s d

-- Behind a turn a track is due, and no sample is left: of a file that has changed.
pub record FindsMore (tracks : List TrackLeft) (nexts : List (Option SampleAt))
    (taken later : Schedule) (d : DueTracks) : Type 0 where
  pub skips : Skips d taken later
  pub due : IsDueAt tracks nexts later d
  pub some : 0 < later.track
  pub inside : later.track < later.tracks
  pub none_left : later.left ≡ 0
