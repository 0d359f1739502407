-- What is read of the leaves of a `traf`, as plain numbers.
use Rattle.std.specs.Prelude.{◌≡◌, ℕ, ◌+◌, ◌*◌, ◌≤◌, ℤ, List, [], ◌∷◌, length, drop, Option, None, unwrap_or, option_map, slice_index, nat_eq}
use Rattle.byteorder.specs.Endian.{twos_complement}
use Rattle.mp4_boxes.specs.format.Layout.{has, flags, version, column_values, leaf_fields, tfhd, trun, row_count, tfhd_columns, trun_columns, default_base_is_moof, IsReadable}
use Rattle.mp4_frag.specs.words.ColumnsRead.{row_room, rows_from}
use Rattle.mp4_frag.specs.format.Fragments.{column, TrackFragment}
use Rattle.mp4_frag.specs.format.FragmentSamples.{base_of}
use Rattle.mp4_frag.specs.declared.heads.Inherited.{Inherited}
use Rattle.mp4_frag.specs.declared.trex.Trex.{Trex}
use Rattle.mp4_frag.specs.declared.run_rows.ReadRow.{ReadRow}
use Rattle.mp4_frag.specs.declared.run_rows.SaidRow.{SaidRow}
use Rattle.mp4_frag.specs.declared.trun.Run.{Run}
use Rattle.mp4_frag.specs.declared.heads.TrafHead.{TrafHead}

-- the values in a row of `trun`
abbrev pub row_values : ReadRow → List (Option ℕ)
row_values row = row.duration ∷ row.size ∷ row.flags ∷ row.offset ∷ []

-- these are the values of a row, or what is inherited where one isn't there
pub record SaysRow (inherited : Inherited) (values : List (Option ℕ)) (said : SaidRow)
    : Type 0 where
  pub row : ReadRow
  pub is : row_values row ≡ values
  pub duration : said.duration ≡ unwrap_or row.duration inherited.duration
  pub size : said.size ≡ unwrap_or row.size inherited.size
  pub flags : said.flags ≡ unwrap_or row.flags inherited.flags
  pub offset : said.offset ≡ unwrap_or row.offset 0

-- the optional values of a `tfhd`
abbrev pub head_values : TrafHead → List (Option ℕ)
head_values head = head.base ∷ head.description ∷ head.duration ∷ head.size ∷ head.flags ∷ []

-- what was read of a `tfhd`
pub record IsHead (payload : List ℕ) (head : TrafHead) : Type 0 where
  pub id : head.id ≡ slice_index (leaf_fields tfhd payload) 2
  pub values : head_values head ≡ column_values (flags payload) tfhd_columns (drop 8 payload)
  pub base_is_moof : head.base_is_moof ≡ has (flags payload) default_base_is_moof
  pub readable : IsReadable tfhd payload

-- what was read of a `trun`
pub record IsRun (payload : List ℕ) (run : Run) : Type 0 where
  pub count : run.count ≡ row_count trun payload
  pub data_offset : run.data_offset
      ≡ option_map (twos_complement 4)
      (column (column_values (flags payload) trun_columns (drop 8 payload)) 0)
  pub first_flags : run.first_flags
      ≡ column (column_values (flags payload) trun_columns (drop 8 payload)) 1
  pub bits : run.bits ≡ flags payload
  pub is_signed : run.is_signed ≡ nat_eq (version payload) 1
  pub rows : run.rows ≡ rows_from (flags payload)
  pub room : run.rows + run.count * row_room run.bits ≤ length payload
  pub readable : IsReadable trun payload

-- a `traf` of this `tfhd`
abbrev pub as_traf : TrafHead → TrackFragment
as_traf head = record {
  id = head.id;
  base_data_offset = head.base;
  description = head.description;
  duration = head.duration;
  size = head.size;
  flags = head.flags;
  base_is_moof = head.base_is_moof;
  decode_time = None;
  runs = [];
  groups = [];
}

-- where runs are counted from by a `tfhd` with this payload, in a `moof` at a place, where the data
-- of the `traf` before ends there
abbrev pub IsBaseIn : List ℕ → ℕ → ℤ → ℤ → Type 0
IsBaseIn payload moof before base =
    (head : TrafHead) × IsHead payload head × (base ≡ base_of moof before (as_traf head))

-- what the samples of a `traf` inherit
abbrev pub inheritance : TrackFragment → Trex → Inherited
inheritance traf trex = record {
  description = unwrap_or traf.description trex.description;
  duration = unwrap_or traf.duration trex.duration;
  size = unwrap_or traf.size trex.size;
  flags = unwrap_or traf.flags trex.flags;
}
