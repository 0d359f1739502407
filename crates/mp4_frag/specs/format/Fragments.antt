-- Movie fragments as plain values, and how they are read from the boxes of `moof` (ISO/IEC
-- 14496-12, 8.8).
use Rattle.std.specs.Prelude.{ℕ, zero, suc, ◌+◌, List, [], ◌∷◌, drop, map, Bool, Option, None, option_map, ℤ, slice_index, slice_index_or, codes}
use Rattle.std.specs.List.{AllZip}
use Rattle.byteorder.specs.Endian.{twos_complement}
use Rattle.mp4_boxes.specs.format.Bytes.{width_of}
use Rattle.mp4_boxes.specs.format.Box.{Box, box_container}
use Rattle.mp4_boxes.specs.format.Children.{payload_of, payload_if, of_kind, Holds}
use Rattle.mp4_boxes.specs.format.Layout.{trex, tfhd, tfdt, trun, leaf_fields, version, flags, has, row_count, present, column_values, tfhd_columns, trun_columns, sample_columns, default_base_is_moof}
use Rattle.mp4_boxes.specs.declared.rule.Rule.TheVariants as rules
use Rattle.mp4_tables.specs.format.Groups.{Grouping, groupings_of}
use Rattle.mp4_tables.specs.format.Tables.{composition_offset}
use Rattle.mp4_frag.specs.declared.trex.Trex.{Trex}

-- a sample's row in `trun` (8.8.8): what stands there
pub record RunRow : Type 0 where
  pub duration : Option ℕ
  pub size : Option ℕ
  pub flags : Option ℕ
  pub offset : Option ℤ

-- a `trun`
pub record SampleRun : Type 0 where
  pub data_offset : Option ℤ
  pub first_sample_flags : Option ℕ
  pub rows : List RunRow

-- a `traf`: its `tfhd` (8.8.7), its `tfdt` (8.8.12) if there is one, its runs, its `sbgp`s (8.9.2),
-- each in file order
pub record TrackFragment : Type 0 where
  pub id : ℕ
  pub base_data_offset : Option ℕ
  pub description : Option ℕ
  pub duration : Option ℕ
  pub size : Option ℕ
  pub flags : Option ℕ
  pub base_is_moof : Bool
  pub decode_time : Option ℕ
  pub runs : List SampleRun
  pub groups : List Grouping

-- a `moof`: its first byte's place in the file, its `traf`s
pub record Fragment : Type 0 where
  pub at : ℕ
  pub trafs : List TrackFragment

abbrev pub column : List (Option ℕ) → ℕ → Option ℕ
column values k = slice_index_or values k None

abbrev pub run_row_of : ℕ → List (Option ℕ) → RunRow
run_row_of v values = record {
  duration = column values 0;
  size = column values 1;
  flags = column values 2;
  offset = option_map (composition_offset v) (column values 3);
}

-- n rows of the columns that the flags name
abbrev pub run_rows : ℕ → ℕ → ℕ → List ℕ → List RunRow
run_rows zero v bits bytes = []
run_rows (suc n) v bits bytes = run_row_of v (column_values bits sample_columns bytes)
    ∷ run_rows n v bits (drop (width_of (present bits sample_columns)) bytes)

abbrev pub sample_run_of : List ℕ → SampleRun
sample_run_of payload =
    let bits = flags payload in
    let values = column_values bits trun_columns (drop 8 payload) in
    record {
      data_offset = option_map (twos_complement 4) (column values 0);
      first_sample_flags = column values 1;
      rows = run_rows (row_count trun payload) (version payload) bits
          (drop (8 + width_of (present bits trun_columns)) payload);
    }

abbrev pub decode_time_of : List ℕ → ℕ
decode_time_of payload = slice_index (leaf_fields tfdt payload) 2

-- the values in the boxes of a `traf`
abbrev pub track_fragment_of : List Box → TrackFragment
track_fragment_of boxes =
    let head = payload_of (codes "tfhd") boxes in
    let values = column_values (flags head) tfhd_columns (drop 8 head) in
    record {
      id = slice_index (leaf_fields tfhd head) 2;
      base_data_offset = column values 0;
      description = column values 1;
      duration = column values 2;
      size = column values 3;
      flags = column values 4;
      base_is_moof = has (flags head) default_base_is_moof;
      decode_time = option_map decode_time_of (payload_if (codes "tfdt") boxes);
      runs = map (λ (b : Box). sample_run_of b.payload) (of_kind (codes "trun") boxes);
      groups = groupings_of (of_kind (codes "sbgp") boxes);
    }

-- a `trex` (8.8.3)
abbrev pub trex_of : List ℕ → Trex
trex_of payload =
    let ns = leaf_fields trex payload in
    record {
      id = slice_index ns 2;
      description = slice_index ns 3;
      duration = slice_index ns 4;
      size = slice_index ns 5;
      flags = slice_index ns 6;
    }

-- a `moof` with its children, and the children of each of its `traf`s
pub record FragmentTree : Type 0 where
  pub moof : Box
  pub children : List Box
  pub trafs : List (List Box)

-- each list is the children of its `traf`
abbrev pub AreTrafs : List Box → List (List Box) → Type 0
AreTrafs trafs lists = AllZip (λ (b : Box) boxes. Holds rules.TrackFragment (box_container b) boxes)
    trafs lists

-- the tree of a `moof` is this one
pub record IsFragmentTree (t : FragmentTree) : Type 0 where
  pub children : Holds rules.MovieFragment (box_container t.moof) t.children
  pub trafs : AreTrafs (of_kind (codes "traf") t.children) t.trafs

abbrev pub fragment_of : FragmentTree → Fragment
fragment_of t = record { at = t.moof.offset; trafs = map track_fragment_of t.trafs }
