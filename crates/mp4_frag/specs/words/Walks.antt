-- A walk over the samples of a `traf`: which samples are to come, by rows of runs and by boxes. It
-- is said of every payload, and so of one that no check accepted: a box that can't be read is left
-- out, and numbers go no further than they can be held.
use Rattle.std.specs.Prelude.{ℕ, ◌+◌, ◌-◌, ◌^◌, ◌==◌, ◌&&◌, nat_lt, nat_le, min, Bool, false, cond, if◌then◌else◌, List, [], ◌∷◌, length, take, drop, map, find, slice_index, slice_set, Option, Some, None, unwrap_or, option_map, ℤ, pos, negsuc, ◌+ℤ◌, codes, bytes_eq}
use Rattle.std.specs.Int.{w128, saturate_signed}
use Rattle.mp4_boxes.specs.format.Bytes.{width_of}
use Rattle.mp4_boxes.specs.format.Box.{Box, first_boxes}
use Rattle.mp4_boxes.specs.format.Layout.{Leaf, tfhd, trun, sbgp, fields, leaf_fields, flags, version, has, row_count, needed, knows_version, knows_flags, column_values, tfhd_columns, default_base_is_moof}
use Rattle.mp4_tables.specs.format.Groups.{GroupKey, key_of}
use Rattle.mp4_tables.specs.words.Keys.{key_place}
use Rattle.mp4_tables.specs.format.Repeated.{repeated}
use Rattle.mp4_tables.specs.words.Rows.{runs_at}
use Rattle.mp4_tables.specs.words.Indexes.{low_half, indexes_coming}
use Rattle.mp4_tables.specs.format.Tables.{composition_offset}
use Rattle.mp4_tables.specs.declared.sample.SampleAt.{SampleAt}
use Rattle.mp4_frag.specs.words.ColumnsRead.{rows_from}
use Rattle.mp4_frag.specs.format.Fragments.{RunRow, TrackFragment, column, sample_run_of, run_rows}
use Rattle.mp4_frag.specs.format.FragmentSamples.{flags_of}
use Rattle.mp4_frag.specs.words.Reading.{inheritance}
use Rattle.mp4_frag.specs.words.FragmentsSeen.{CursorSeen}
use Rattle.mp4_frag.specs.declared.heads.Inherited.{Inherited}
use Rattle.mp4_frag.specs.declared.places.TrafPlace.{TrafPlace}
use Rattle.mp4_frag.specs.declared.places.RowPlace.{RowPlace}
use Rattle.mp4_frag.specs.declared.run_rows.ReadRow.{ReadRow}
use Rattle.mp4_frag.specs.declared.state.TrackState.{TrackState}
use Rattle.mp4_frag.specs.declared.trex.Trex.{Trex}

-- how far it has come: how many samples of the track come before the next one, its decode time,
-- where data goes on, where runs are counted from, what they inherit, and the indexes to come at
-- each key
pub record Reached : Type 0 where
  pub number : ℕ
  pub dts : ℕ
  pub at : ℕ
  pub base : ℤ
  pub inherited : Inherited
  pub indexes : List (List ℕ)

-- ---- samples

-- a time or a place that goes no further than 64 bits hold
abbrev pub capped : ℕ → ℕ
capped time = min time (2 ^ 64 - 1)

-- the next number, which goes no further than 32 bits hold
abbrev pub next_number : ℕ → ℕ
next_number number = min (number + 1) (2 ^ 32 - 1)

-- a start that goes no further than 128 bits hold
abbrev pub held : ℤ → ℤ
held at = saturate_signed w128 at

-- the place of a first byte, the last one where 64 bits have none for it
abbrev pub first_byte : ℤ → ℕ
first_byte (pos n) = if nat_lt n (2 ^ 64) then n else 2 ^ 64 - 1
first_byte (negsuc n) = 2 ^ 64 - 1

-- the sample of a row
abbrev pub sample_of : Reached → Option ℕ → RunRow → SampleAt
sample_of s first row = record {
  dts = s.dts;
  duration = unwrap_or row.duration s.inherited.duration;
  cto = unwrap_or row.offset (pos 0);
  flags = flags_of first row.flags None s.inherited.flags;
  description = s.inherited.description;
  at = s.at;
  size = unwrap_or row.size s.inherited.size;
  groups = map (λ indexes. slice_index indexes 0) s.indexes;
  number = s.number;
}

-- behind it
abbrev pub behind_row : Reached → RunRow → Reached
behind_row s row = record s {
  number = next_number s.number;
  dts = capped (s.dts + unwrap_or row.duration s.inherited.duration);
  at = capped (s.at + unwrap_or row.size s.inherited.size);
  indexes = map (drop 1) s.indexes;
}

-- the samples of these rows, and then those of what is behind them
abbrev pub rows_coming : Reached → Option ℕ → List RunRow → (Reached → List SampleAt)
    → List SampleAt
rows_coming s first [] more = more s
rows_coming s first (row ∷ rows) more = sample_of s first row
    ∷ rows_coming (behind_row s row) None rows more

-- ---- leaves

-- the leaf can be read
abbrev pub can_read : Leaf → List ℕ → Bool
can_read leaf payload = knows_version leaf payload
    && (knows_flags leaf payload && nat_le (needed leaf payload) (length payload))

-- the rows of a `trun`, with composition offsets as of version 1
unfoldable pub rows_of : List ℕ → List RunRow
rows_of payload = run_rows (row_count trun payload) 1 (flags payload)
    (drop (rows_from (flags payload)) payload)

-- where a run begins
abbrev pub begin : ℤ → ℕ → Option ℤ → ℕ
begin base before None = before
begin base before (Some offset) = first_byte (held (base +ℤ offset))

-- before the first row of a `trun`
abbrev pub before_run : Reached → List ℕ → Reached
before_run s payload = record s { at = begin s.base s.at (sample_run_of payload).data_offset }

-- the samples of a `trun`, and then those of what is behind it
abbrev pub run_coming : Reached → List ℕ → (Reached → List SampleAt) → List SampleAt
run_coming s payload more =
    cond (can_read trun payload)
    (rows_coming (before_run s payload) (sample_run_of payload).first_sample_flags (rows_of payload)
    more)
    (more s)

-- what a `tfhd` says
abbrev pub head_of : List ℕ → TrackFragment
head_of payload =
    let values = column_values (flags payload) tfhd_columns (drop 8 payload) in
    record {
      id = slice_index (leaf_fields tfhd payload) 2;
      base_data_offset = column values 0;
      description = column values 1;
      duration = column values 2;
      size = column values 3;
      flags = column values 4;
      base_is_moof = has (flags payload) default_base_is_moof;
      decode_time = None;
      runs = [];
      groups = [];
    }

-- what the fragments of the track with this ID inherit, if it is there
abbrev pub trex_among : List TrackState → ℕ → Option Trex
trex_among tracks id =
    unwrap_or (option_map (λ (t : TrackState). t.trex)
    (find (λ (t : TrackState). t.id == id) tracks)) None

-- a `tfhd` can be read, and names the track with this ID
unfoldable pub names : ℕ → List ℕ → Bool
names id payload = can_read tfhd payload && (head_of payload).id == id

-- the samples inherit what it says, else what this `trex` does
abbrev pub with_head : Trex → Reached → List ℕ → Reached
with_head trex s payload = cond (can_read tfhd payload)
    (record s { inherited = inheritance (head_of payload) trex }) s

-- the indexes that an `sbgp` gives to samples
unfoldable pub indexes_of : List ℕ → List ℕ
indexes_of payload =
    map low_half (repeated
    (runs_at payload (record {
      place = width_of (fields sbgp (version payload));
      count = row_count sbgp payload;
    })))

-- the indexes with those at the key of this place among the four
abbrev pub with_key : List (List ℕ) → List ℕ → Option ℕ → List (List ℕ)
with_key lists indexes None = lists
with_key lists indexes (Some j) = slice_set lists (min j 3) indexes

-- the indexes with those of an `sbgp`
abbrev pub with_group : List GroupKey → List (List ℕ) → List ℕ → List (List ℕ)
with_group keys lists payload = cond (can_read sbgp payload)
    (with_key lists (indexes_of payload) (key_place (key_of payload) keys)) lists

-- ---- boxes

-- some bytes of a payload
abbrev pub part_of : List ℕ → ℕ → ℕ → List ℕ
part_of payload at end = take (end - at) (drop at payload)

-- the boxes in front of bytes that lie at this place
abbrev pub boxes_in : ℕ → List ℕ → List Box
boxes_in at bytes = first_boxes (length bytes) at bytes

-- the boxes from a place up to another
unfoldable pub boxes_between : List ℕ → ℕ → ℕ → List Box
boxes_between payload at end = boxes_in at (part_of payload at end)

-- what the boxes of a `traf` say of its samples
abbrev pub with_leaf : Trex → List GroupKey → Reached → Box → Reached
with_leaf trex keys s b = cond (bytes_eq (codes "tfhd") b.kind) (with_head trex s b.payload)
    (cond (bytes_eq (codes "sbgp") b.kind)
    (record s { indexes = with_group keys s.indexes b.payload }) s)

abbrev pub with_leaves : Trex → List GroupKey → Reached → List Box → Reached
with_leaves trex keys s [] = s
with_leaves trex keys s (b ∷ boxes) = with_leaves trex keys (with_leaf trex keys s b) boxes

-- whether the last `tfhd` among boxes names the track with this ID; with none, it is as before them
abbrev pub are_named : ℕ → Bool → List Box → Bool
are_named id before [] = before
are_named id before (b ∷ boxes) =
    are_named id (cond (bytes_eq (codes "tfhd") b.kind) (names id b.payload) before) boxes

-- no indexes at any key
abbrev pub no_indexes : List (List ℕ)
no_indexes = [] ∷ [] ∷ [] ∷ [] ∷ []

-- before what the boxes of a `traf` say whose runs are counted from this base
abbrev pub at_first : ℤ → ℕ → ℕ → Reached
at_first base number dts = record {
  number = number;
  dts = dts;
  at = first_byte base;
  base = base;
  inherited = record { description = 0; duration = 0; size = 0; flags = 0 };
  indexes = no_indexes;
}

-- the samples of the runs among boxes
abbrev pub runs_coming : Reached → List Box → List SampleAt
runs_coming s [] = []
runs_coming s (b ∷ boxes) = cond (bytes_eq (codes "trun") b.kind)
    (run_coming s b.payload (λ t. runs_coming t boxes)) (runs_coming s boxes)

-- the samples of the boxes of a `traf`: none, where it does not name the track with this ID
abbrev pub boxes_coming : ℤ → ℕ → Trex → ℕ → ℕ → List GroupKey → List Box → List SampleAt
boxes_coming base id trex number dts keys boxes = cond (are_named id false boxes)
    (runs_coming (with_leaves trex keys (at_first base number dts) boxes) boxes) []

-- ---- places

-- what stands in a row, with its composition offset as of version 1
abbrev pub row_signed : ReadRow → RunRow
row_signed row = record {
  duration = row.duration;
  size = row.size;
  flags = row.flags;
  offset = option_map (composition_offset 1) row.offset;
}

-- the rows left of a run
unfoldable pub rows_here : List ℕ → RowPlace → List RunRow
rows_here payload p = run_rows p.left 1 p.bits (drop p.row payload)

-- the number of the next sample, where so many come before those behind the run, which has so many
-- left
abbrev pub number_here : ℕ → ℕ → ℕ
number_here behind left = min (behind - left) (2 ^ 32 - 1)

-- what goes for the next sample at a place
abbrev pub reached : List ℕ → TrafPlace → Reached
reached payload p = record {
  number = number_here p.number p.run.left;
  dts = p.dts;
  at = p.at;
  base = p.base;
  inherited = p.inherited;
  indexes = indexes_coming payload p.index_rows p.indexes;
}

-- the boxes from a place on
abbrev pub boxes_from : List ℕ → ℕ → List Box
boxes_from payload at = boxes_between payload at (length payload)

-- the samples to come from a place on: those of the rows left of its run, and of the boxes behind
-- it
unfoldable pub coming : List ℕ → TrafPlace → List SampleAt
coming payload p = rows_coming (reached payload p) p.run.first_flags (rows_here payload p.run)
    (λ s. runs_coming s (boxes_from payload p.next))

abbrev pub samples_coming : CursorSeen → List SampleAt
samples_coming v = coming v.payload v.place

-- the samples of the track with this ID in a `traf` of this payload, whose runs are counted from
-- this base, the first of them behind so many and at a decode time
abbrev pub samples_in : List ℕ → ℤ → ℕ → Trex → ℕ → ℕ → List GroupKey → List SampleAt
samples_in payload base id trex number dts keys =
    boxes_coming base id trex number dts keys (boxes_in 0 payload)
