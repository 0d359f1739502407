-- The samples that movie fragments name (ISO/IEC 14496-12, 8.8.7, 8.8.8, 8.8.12).
use Rattle.std.specs.Prelude.{ℕ, ◌+◌, ◌%◌, ◌^◌, List, [], ◌∷◌, flat_map, filter, find, Bool, true, false, ◌==◌, Option, Some, None, unwrap_or, ℤ, pos, ◌+ℤ◌, length, nat_lt, not, ◌||◌, option_map, IsTrue, ⊤}
use Rattle.mp4_boxes.specs.format.Bytes.{sum_of}
use Rattle.mp4_tables.specs.format.Groups.{GroupRule, GroupKey, Grouping, maps_of, keys_after, group_test}
use Rattle.mp4_tables.specs.format.PlainSamples.{PlacedSample, with_groups}
use Rattle.mp4_frag.specs.declared.trex.Trex.{Trex}
use Rattle.mp4_frag.specs.format.Fragments.{RunRow, SampleRun, TrackFragment, Fragment}

-- the first of them that is present: the run's own, that of `tfhd`, that of `trex`
abbrev pub inherited : Option ℕ → Option ℕ → ℕ → ℕ
inherited (Some own) head last = own
inherited None (Some head) last = head
inherited None None last = last

-- the flags of a row; those of a run's first sample stand in place of the inherited ones. The four
-- highest bits are reserved.
abbrev pub flags_of : Option ℕ → Option ℕ → Option ℕ → ℕ → ℕ
flags_of (Some first) own head last = first % 2 ^ 28
flags_of None own head last = inherited own head last % 2 ^ 28

-- the samples of a run from a place on, in no group; the flags are those of `first_sample_flags`,
-- at its first sample alone
abbrev pub run_samples : Trex → TrackFragment → Option ℕ → ℤ → List RunRow → List PlacedSample
run_samples trex traf first at [] = []
run_samples trex traf first at (row ∷ rows) =
    let size = inherited row.size traf.size trex.size in
    record {
      duration = inherited row.duration traf.duration trex.duration;
      offset = unwrap_or row.offset (pos 0);
      flags = flags_of first row.flags traf.flags trex.flags;
      description = unwrap_or traf.description trex.description;
      at = at;
      size = size;
      groups = [];
    }
    ∷ run_samples trex traf None (at +ℤ pos size) rows

-- where data ends that begins at a place
abbrev pub end_of_data : ℤ → List PlacedSample → ℤ
end_of_data at samples = at +ℤ pos (sum_of (λ s. s.size) samples)

-- where a run begins: at its offset from the base, else where the data before it ends
abbrev pub run_start : ℤ → ℤ → Option ℤ → ℤ
run_start base before None = before
run_start base before (Some offset) = base +ℤ offset

-- each run's samples, where `before` is where the data so far ends; and where it ends behind them
abbrev pub runs_samples : Trex → TrackFragment → ℤ → ℤ → List SampleRun → List (List PlacedSample)
runs_samples trex traf base before [] = []
runs_samples trex traf base before (run ∷ runs) =
    let at = run_start base before run.data_offset in
    let samples = run_samples trex traf run.first_sample_flags at run.rows in
    samples ∷ runs_samples trex traf base (end_of_data at samples) runs

abbrev pub runs_end : Trex → TrackFragment → ℤ → ℤ → List SampleRun → ℤ
runs_end trex traf base before [] = before
runs_end trex traf base before (run ∷ runs) =
    let at = run_start base before run.data_offset in
    runs_end trex traf base
    (end_of_data at (run_samples trex traf run.first_sample_flags at run.rows)) runs

-- the base of a `traf`: its own; the `moof`'s first byte; or where the data of the `traf` before it
-- ends, which is the `moof`'s first byte for the first
abbrev pub base_of : ℕ → ℤ → TrackFragment → ℤ
base_of moof before traf = based traf.base_data_offset traf.base_is_moof
  where
    based : Option ℕ → Bool → ℤ
    based (Some at) is_moof = pos at
    based None true = pos moof
    based None false = before

-- a `traf` as what it says: of which track, at which decode time if it says so, which samples run
-- by run, and how they are grouped
pub record Part : Type 0 where
  pub id : ℕ
  pub decode_time : Option ℕ
  pub runs : List (List PlacedSample)
  pub groups : List Grouping

-- the samples of all its runs, with their groups
abbrev pub part_samples : Part → List PlacedSample
part_samples part =
    let samples = flat_map (λ samples. samples) part.runs in
    with_groups (maps_of (length samples) part.groups) samples

-- the `trex` of a track
abbrev pub trex_for : List Trex → ℕ → Option Trex
trex_for trexes id = find (λ trex. trex.id == id) trexes

abbrev pub no_trex : Trex
no_trex = record { id = 0; description = 0; duration = 0; size = 0; flags = 0 }

-- the parts of a `moof`, where `before` is where the data of the `traf` before ends
abbrev pub parts_after : List Trex → ℕ → ℤ → List TrackFragment → List Part
parts_after trexes moof before [] = []
parts_after trexes moof before (traf ∷ trafs) =
    let trex = unwrap_or (trex_for trexes traf.id) no_trex in
    let base = base_of moof before traf in
    record {
      id = traf.id;
      decode_time = traf.decode_time;
      runs = runs_samples trex traf base base traf.runs;
      groups = traf.groups;
    }
    ∷ parts_after trexes moof (runs_end trex traf base base traf.runs) trafs

abbrev pub parts_of : List Trex → Fragment → List Part
parts_of trexes fragment = parts_after trexes fragment.at (pos fragment.at) fragment.trafs

-- the parts of all `moof`s, in file order
abbrev pub all_parts : List Trex → List Fragment → List Part
all_parts trexes fragments = flat_map (parts_of trexes) fragments

-- the parts of one track
abbrev pub parts_for : ℕ → List Part → List Part
parts_for id parts = filter (λ part. part.id == id) parts

-- the samples of one track's fragments, in file order
abbrev pub fragment_samples : ℕ → List Part → List PlacedSample
fragment_samples id parts = flat_map part_samples (parts_for id parts)

abbrev pub duration_of : List PlacedSample → ℕ
duration_of samples = sum_of (λ s. s.duration) samples

abbrev pub bytes_of : List PlacedSample → ℕ
bytes_of samples = sum_of (λ s. s.size) samples

abbrev pub has_samples : Part → Bool
has_samples part = nat_lt 0 (length (part_samples part))

-- The decode time at which a track starts: the `tfdt` of its first `traf` with samples, where no
-- sample comes before; else 0.
abbrev pub start_of : List PlacedSample → List Part → ℕ
start_of (s ∷ plain) parts = 0
start_of [] parts = first_time (find has_samples parts)
  where
    first_time : Option Part → ℕ
    first_time None = 0
    first_time (Some part) = unwrap_or part.decode_time 0

-- the `tfdt` of a `traf` with samples, if it has one, is the time that is due
abbrev pub is_on_time : ℕ → Part → Bool
is_on_time due part = not (has_samples part)
    || unwrap_or (option_map (λ time. time == due) part.decode_time) true

-- Each `tfdt` of a `traf` with samples is the time that is due there.
abbrev pub AreOnTime : ℕ → List Part → Type 0
AreOnTime due [] = ⊤
AreOnTime due (part ∷ parts) = IsTrue (is_on_time due part)
    × AreOnTime (due + duration_of (part_samples part)) parts

-- the rule is kept by the k-th `sbgp` of a `traf`, whose track named these keys before
abbrev pub has_groups : GroupRule → List GroupKey → Part → ℕ → Bool
has_groups rule keys part k = group_test rule (length (part_samples part)) keys part.groups k

-- the keys that a track has named behind these parts, in the order in which it first names them
abbrev pub keys_behind : List GroupKey → List Part → List GroupKey
keys_behind keys parts = keys_after keys (flat_map (λ part. part.groups) parts)

-- Each `sbgp` of the parts of a track, which named these keys before, keeps the rules.
abbrev pub AreGrouped : List GroupKey → List Part → Type 0
AreGrouped keys [] = ⊤
AreGrouped keys (part ∷ parts) = ((rule : GroupRule) (k : ℕ) → IsTrue (has_groups rule keys part k))
    × AreGrouped (keys_after keys part.groups) parts
