-- What is known of the samples of a piece, gathered one sample at a time.
use Rattle.std.specs.Prelude.{◌≡◌, ℕ, ◌+◌, ◌*◌, ◌≤◌, ◌==◌, Bool, false, not, ◌||◌, if◌then◌else◌, List, [], ◌∷◌, take, drop, slice_index, Option, Some, None, slice_index_or}
use Rattle.std.specs.List.{prefix_len}
use Rattle.mp4_boxes.specs.format.Bytes.{unsigned}
use Rattle.mp4_tables.specs.declared.sample.SampleAt.{SampleAt}
use Rattle.mp4_plan.specs.words.Ends.{goes_in}
use Rattle.mp4_plan.specs.declared.ends.End.{End}
use Rattle.mp4_plan.specs.declared.ends.Fed.{Fed}
use Rattle.mp4_plan.specs.declared.ends.Fed.TheVariants.{More, Closed}
use Rattle.mp4_plan.specs.declared.gathered.Gathered.{Gathered}
use Rattle.mp4_plan.specs.declared.gathered.GroupRuns.{GroupRuns}
use Rattle.mp4_plan.specs.declared.planner.Planned.{Planned}

-- a number that stands for all, with one more
abbrev pub common_more : Option ℕ → ℕ → Option ℕ
common_more None n = None
common_more (Some m) n = if m == n then Some m else None

-- the rows of one index, and with one more
abbrev pub runs_first : ℕ → GroupRuns
runs_first index = record { last = index; rows = 1; is_used = not (index == 0) }

abbrev pub runs_more : GroupRuns → ℕ → GroupRuns
runs_more runs index = record {
  last = index;
  rows = if runs.last == index then runs.rows
      else runs.rows + 1;
  is_used = runs.is_used || not (index == 0);
}

-- some composition offset is not 0, by the number that is written
abbrev pub has_offset : SampleAt → Bool
has_offset s = not (unsigned 4 s.cto == 0)

-- the group description index at the j-th key
abbrev pub index_of : SampleAt → ℕ → ℕ
index_of s j = slice_index s.groups j

abbrev pub gathered_first : SampleAt → Gathered
gathered_first s = record {
  description = s.description;
  count = 1;
  bytes = s.size;
  duration = Some s.duration;
  size = Some s.size;
  flags = Some s.flags;
  has_offsets = has_offset s;
  indexes = s.groups;
  groups = runs_first (index_of s 0) ∷ runs_first (index_of s 1) ∷ runs_first (index_of s 2)
      ∷ runs_first (index_of s 3) ∷ [];
}

abbrev pub no_runs : GroupRuns
no_runs = record { last = 0; rows = 0; is_used = false }

abbrev pub runs_in : List GroupRuns → ℕ → GroupRuns
runs_in groups j = slice_index_or groups j no_runs

abbrev pub runs_at : Gathered → ℕ → GroupRuns
runs_at g j = runs_in g.groups j

-- with the indexes of one more sample
abbrev pub with_indexes : Gathered → List ℕ → Gathered
with_indexes g indexes = record g {
  indexes = indexes;
  groups = runs_more (runs_at g 0) (slice_index indexes 0)
      ∷ runs_more (runs_at g 1) (slice_index indexes 1)
      ∷ runs_more (runs_at g 2) (slice_index indexes 2)
      ∷ runs_more (runs_at g 3) (slice_index indexes 3) ∷ [];
}

abbrev pub gathered_more : Gathered → SampleAt → Gathered
gathered_more g s = record {
  description = g.description;
  count = g.count + 1;
  bytes = g.bytes + s.size;
  duration = common_more g.duration s.duration;
  size = common_more g.size s.size;
  flags = common_more g.flags s.flags;
  has_offsets = g.has_offsets || has_offset s;
  indexes = s.groups;
  groups = runs_more (runs_at g 0) (index_of s 0) ∷ runs_more (runs_at g 1) (index_of s 1)
      ∷ runs_more (runs_at g 2) (index_of s 2) ∷ runs_more (runs_at g 3) (index_of s 3) ∷ [];
}

-- with one more sample, with some more
abbrev pub gather : Option Gathered → SampleAt → Option Gathered
gather None s = Some (gathered_first s)
gather (Some g) s = Some (gathered_more g s)

abbrev pub gather_all : Option Gathered → List SampleAt → Option Gathered
gather_all g [] = g
gather_all g (s ∷ samples) = gather_all (gather g s) samples

-- ---- a piece that is fed

-- a piece: its end, and what is known of its samples once it has some
pub record Planning : Type 0 where
  pub end : End
  pub gathered : Option Gathered

-- one without samples
abbrev pub piece_from : End → Planning
piece_from end = record { end = end; gathered = None }

-- the description of a piece: that of its samples, or of the next where it has none
abbrev pub description_in : Option Gathered → List SampleAt → ℕ
description_in (Some g) samples = g.description
description_in None [] = 0
description_in None (s ∷ samples) = s.description

-- how many of the next samples go into the piece: up to the first at which it has ended, or of
-- another description
unfoldable pub more_of : Planning → List SampleAt → ℕ
more_of p samples = prefix_len (goes_in p.end (description_in p.gathered samples)) samples

-- the piece with all of these that go into it, and those that are left
abbrev pub piece_fed : Planning → List SampleAt → Planning
piece_fed p samples = record {
  end = p.end;
  gathered = gather_all p.gathered (take (more_of p samples) samples);
}

abbrev pub samples_after : Planning → List SampleAt → List SampleAt
samples_after p samples = drop (more_of p samples) samples

-- what feeding answers: whether a sample is left that did not go in
abbrev pub answer : List SampleAt → Fed
answer [] = More
answer (s ∷ samples) = Closed

-- how many samples a piece has
abbrev pub count_of : Option Gathered → ℕ
count_of None = 0
count_of (Some g) = g.count

-- where the last index is not 0, some index is not
abbrev pub IsUsed : GroupRuns → Type 0
IsUsed runs = runs.is_used ≡ false → runs.last ≡ 0

-- the last index at each key is that of the last sample
pub record HaveLast (groups : List GroupRuns) (indexes : List ℕ) : Type 0 where
  pub used : (j : ℕ) → IsUsed (runs_in groups j)
  pub first : (runs_in groups 0).last ≡ slice_index indexes 0
  pub second : (runs_in groups 1).last ≡ slice_index indexes 1
  pub third : (runs_in groups 2).last ≡ slice_index indexes 2
  pub fourth : (runs_in groups 3).last ≡ slice_index indexes 3

-- a sum of sizes fits its type, no key has more rows than there are samples, and where its last
-- index is not 0 it has some
pub record IsBounded (g : Gathered) : Type 0 where
  pub bytes : g.bytes ≤ g.count * 4294967295
  pub rows : (j : ℕ) → (runs_at g j).rows ≤ g.count
  pub indexes : HaveLast g.groups g.indexes

abbrev pub AreBounded : Option Gathered → Type 0
AreBounded None = Unit {0}
AreBounded (Some g) = IsBounded g

-- ---- what a piece answers

abbrev pub used_rows : GroupRuns → ℕ
used_rows runs = if runs.is_used then runs.rows else 0

abbrev pub planned_of : Option Gathered → Planned
planned_of None = record {
  count = 0;
  bytes = 0;
  duration = None;
  size = None;
  flags = None;
  has_offsets = false;
  group_rows = 0 ∷ 0 ∷ 0 ∷ 0 ∷ [];
}
planned_of (Some g) = record {
  count = g.count;
  bytes = g.bytes;
  duration = g.duration;
  size = g.size;
  flags = g.flags;
  has_offsets = g.has_offsets;
  group_rows = used_rows (runs_at g 0) ∷ used_rows (runs_at g 1) ∷ used_rows (runs_at g 2)
      ∷ used_rows (runs_at g 3) ∷ [];
}
