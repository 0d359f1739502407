-- The work that the tables of a track are.
use Rattle.std.specs.Prelude.{ℕ, ◌+◌, List, length, Option, Some, None}
use Rattle.mp4_boxes.specs.format.Bytes.{sum_of}
use Rattle.mp4_tables.specs.format.Groups.{Grouping}
use Rattle.mp4_tables.specs.format.Tables.{Tables}

-- the rows of a table, if there is one
abbrev pub rows_if : {A : Type 0} → Option (List A) → ℕ
rows_if None = 0
rows_if (Some rows) = length rows

-- the rows of all tables, beside sizes and bytes of `sdtp`, which are one a sample
abbrev pub table_rows : Tables → ℕ
table_rows t = length t.durations + rows_if t.offsets + length t.chunk_rows + length t.chunk_offsets
    + rows_if t.sync + sum_of (λ (g : Grouping). length g.rows) t.groups
