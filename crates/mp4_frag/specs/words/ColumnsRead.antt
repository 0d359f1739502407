-- Numbers that stand in a box only where a flag says so, as they are read one by one.
use Rattle.std.specs.Prelude.{ℕ, ◌+◌, List, Bool, cond, Option, Some, None}
use Rattle.mp4_boxes.specs.format.Bytes.{field, width_of}
use Rattle.mp4_boxes.specs.format.Layout.{present, tfhd_columns, trun_columns, sample_columns}

-- how many bytes a number takes that may be there
abbrev pub taken : Bool → ℕ → ℕ
taken is_there width = cond is_there width 0

-- the number at a place, if it is there
abbrev pub number_if : Bool → List ℕ → ℕ → ℕ → Option ℕ
number_if is_there bytes place width = cond is_there (Some (field bytes place width)) None

-- how many bytes a row of `trun` takes
abbrev pub row_room : ℕ → ℕ
row_room bits = width_of (present bits sample_columns)

-- where the rows of a `trun` begin
abbrev pub rows_from : ℕ → ℕ
rows_from bits = 8 + width_of (present bits trun_columns)

-- how many bytes a `tfhd` takes
abbrev pub head_room : ℕ → ℕ
head_room bits = 8 + width_of (present bits tfhd_columns)
