-- How many bytes the boxes of a piece's `moof` take, by what was planned of it (ISO/IEC 14496-12,
-- 8.8.4 to 8.8.8, 8.9.2).
use Rattle.std.specs.Prelude.{ℕ, ◌+◌, ◌-◌, ◌*◌, nat_lt, Bool, true, false, if◌then◌else◌, List, [], ◌∷◌, slice_index, Option, Some, None}
use Rattle.mp4_tables.specs.format.Groups.{GroupKey}
use Rattle.mp4_plan.specs.declared.planner.Planned.{Planned}
use Rattle.mp4_plan.specs.declared.moof_sizes.MoofSizes.{MoofSizes}

-- a number that stands in a row only if it is not common to all
abbrev pub own_size : Option ℕ → ℕ
own_size None = 4
own_size (Some n) = 0

abbrev pub offset_size : Bool → ℕ
offset_size true = 4
offset_size false = 0

abbrev pub row_size : Planned → ℕ
row_size p = own_size p.duration + own_size p.size + own_size p.flags + offset_size p.has_offsets

-- an `sbgp` of version 0 without a parameter, of version 1 with it
abbrev pub group_size : Option ℕ → ℕ → ℕ
group_size None rows = 20 + 8 * rows
group_size (Some parameter) rows = 24 + 8 * rows

-- the `sbgp`s of the keys that have rows, from the j-th on
abbrev pub groups_size : List ℕ → ℕ → List GroupKey → ℕ
groups_size rows j [] = 0
groups_size rows j (key ∷ keys) = (if nat_lt 0 (slice_index rows j)
    then group_size key.parameter (slice_index rows j) else 0) + groups_size rows (j + 1) keys

abbrev pub tfhd_size : Planned → ℕ
tfhd_size p = 32 - own_size p.duration - own_size p.size - own_size p.flags

abbrev pub trun_size : Planned → ℕ
trun_size p = 20 + row_size p * p.count

abbrev pub traf_size : Planned → List GroupKey → ℕ
traf_size p keys = 8 + tfhd_size p + 20 + trun_size p + groups_size p.group_rows 0 keys

abbrev pub moof_sizes : Planned → List GroupKey → MoofSizes
moof_sizes p keys = record {
  tfhd = tfhd_size p;
  trun = trun_size p;
  traf = traf_size p keys;
  moof = 24 + traf_size p keys;
}
