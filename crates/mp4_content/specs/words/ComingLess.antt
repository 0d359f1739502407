-- What is left of the samples that come in a walk, where something of them doesn't count.
use Rattle.std.specs.Prelude.{◌≡◌, ℕ, ◌+◌, ◌-◌, ◌^◌, ◌==◌, ◌&&◌, ◌||◌, min, not, Bool, if◌then◌else◌, List, [], ◌∷◌, length, map, Option, Some, None, slice_get, ℤ, pos, negsuc}
use Rattle.mp4_head.specs.format.Tree.{TrackTree}
use Rattle.mp4_tables.specs.declared.sample.SampleAt.{SampleAt}
use Rattle.mp4_present.specs.format.Denotes.{FileTree, file_parts, track_of}
use Rattle.mp4_content.specs.format.Reduced.{duration_left, keeps_samples, offset_left, sync_flag}
use Rattle.mp4_content.specs.format.Remaining.{track_divisor}
use Rattle.mp4_content.specs.format.Timescales.{divided, leaves_duration, sized}
use Rattle.mp4_present.specs.words.Movies.{MovieSeen}
use Rattle.mp4_present.specs.words.SamplesComing.{Comes, track_samples}
use Rattle.mp4_content.specs.declared.without.Without.{Without}
use Rattle.mp4_present.specs.declared.walking.Walk.{Walk}
use Rattle.mp4_content.specs.declared.reduced.Reduction.{Reduction}

-- ---- what samples of a track are left by

-- what is left of samples depends on the first of them, or on how many there are
abbrev pub asks_first : Without → Bool
asks_first l = (l.ends || l.origins) && not l.timing

-- it doesn't, and times are divided by this
abbrev pub plain_reduction : Without → ℕ → Reduction
plain_reduction l divisor = record {
  leaving = l;
  divisor = divisor;
  samples = 0;
  start = 0;
  duration = 0;
  offset = pos 0;
}

-- it does, and this is the first of so many
abbrev pub reduction_by : Without → ℕ → ℕ → Option SampleAt → Reduction
reduction_by l divisor count None = plain_reduction l divisor
reduction_by l divisor count (Some s) = record {
  leaving = l;
  divisor = divisor;
  samples = count;
  start = s.dts;
  duration = s.duration;
  offset = s.cto;
}

-- by what these samples are left, all of a track whose times are divided by this
abbrev pub reduction_of : Without → ℕ → List SampleAt → Reduction
reduction_of l divisor samples = if asks_first l
    then reduction_by l divisor (length samples) (slice_get samples 0)
    else plain_reduction l divisor

abbrev pub track_reduction : Without → List ℕ → FileTree → TrackTree → Reduction
track_reduction l file tree t =
    reduction_of l (track_divisor l (track_of file (file_parts tree) t)) (track_samples tree t)

-- by what the samples of each track are left
abbrev pub reductions_of : Without → List ℕ → FileTree → List Reduction
reductions_of l file tree = map (track_reduction l file tree) tree.movie.tracks

-- ---- samples

-- samples stay as they are
abbrev pub keeps_all : Reduction → Bool
keeps_all r = keeps_samples r.leaving && (r.divisor == 1)

-- durations and composition offsets of samples stay as they are
abbrev pub keeps_times : Reduction → Bool
keeps_times r = not r.leaving.ends && not r.leaving.origins && not r.leaving.timing
    && (r.divisor == 1)

-- what is left of how long the sample of this number lasts
abbrev pub lasts_left : Reduction → ℕ → ℕ → ℕ
lasts_left r n duration = if leaves_duration r.leaving r.samples n
    then duration_left r.leaving r.samples n duration
    else divided r.divisor (duration_left r.leaving r.samples n duration)

-- of its composition offset
abbrev pub cto_left : Reduction → ℤ → ℤ
cto_left r cto = sized (divided r.divisor) (offset_left r.leaving r.offset cto)

-- and of its flags
abbrev pub flags_left : Reduction → ℕ → ℕ
flags_left r flags = if r.leaving.flags then sync_flag flags else flags

-- as far as 32 bits go
abbrev pub near_offset : ℤ → ℤ
near_offset (pos n) = pos (min n (2 ^ 31 - 1))
near_offset (negsuc n) = negsuc (min n (2 ^ 31 - 1))

-- what is left of a composition offset, as far as 32 bits go
abbrev pub offset_near : Reduction → ℤ → ℤ
offset_near r cto = if r.leaving.timing then pos 0
    else if r.leaving.origins || not (r.divisor == 1) then near_offset (cto_left r cto) else cto

-- A decode time where the track begins at 0, if it does, and then where the first sample lasts 1,
-- if it does and is another.
abbrev pub begun_time : Reduction → ℕ → ℕ
begun_time r time = if r.leaving.origins then time - r.start else time

abbrev pub moved_time : Reduction → ℕ → ℕ → ℕ
moved_time r n time = if r.leaving.ends && not (n == 0)
    then min (divided r.divisor (begun_time r time - r.duration) + 1) (2 ^ 64 - 1)
    else divided r.divisor (begun_time r time)

-- what is left of a sample as it is handed out: it is in no group where each index is 0, and where
-- timing doesn't count its decode time is how many come before it
abbrev pub reduce_at : Reduction → SampleAt → SampleAt
reduce_at r s = record s {
  dts = if r.leaving.timing then s.number else moved_time r s.number s.dts;
  duration = lasts_left r s.number s.duration;
  cto = offset_near r s.cto;
  flags = flags_left r s.flags;
  groups = if r.leaving.groups then 0 ∷ 0 ∷ 0 ∷ 0 ∷ [] else s.groups;
}

abbrev pub less : Reduction → List SampleAt → List SampleAt
less r samples = map (reduce_at r) samples

-- this is left of the samples that come
pub record ComesLess (r : Reduction) (file : List ℕ) (tree : FileTree) (t : TrackTree)
    (m : MovieSeen) (w : Walk) (left : List SampleAt) : Type 0 where
  pub samples : List SampleAt
  pub comes : Comes file tree t m w samples
  pub is_left : left ≡ less r samples

-- what is left of all samples of a track
abbrev pub left_samples : Without → List ℕ → FileTree → TrackTree → List SampleAt
left_samples l file tree t = less (track_reduction l file tree t) (track_samples tree t)
