-- Rows of tables by where they lie in the payload of their `stbl`.
use Rattle.std.specs.Prelude.{ℕ, ◌+◌, ◌*◌, ◌≤◌, List, [], ◌∷◌, length, drop, map, replicate, slice_index, Bool, true, false}
use Rattle.mp4_boxes.specs.format.Bytes.{rows}
use Rattle.mp4_tables.specs.format.Tables.{ChunkRow, first_number, half_bytes}
use Rattle.mp4_tables.specs.declared.places.RowsAt.{RowsAt}
use Rattle.mp4_tables.specs.declared.places.ChunksAt.{ChunksAt}
use Rattle.mp4_tables.specs.declared.places.SizesAt.{SizesAt}
use Rattle.mp4_tables.specs.declared.places.SizeForm.{SizeForm}
use Rattle.mp4_tables.specs.declared.places.SizeForm.TheVariants as forms

-- there are bytes for as many rows of this width
abbrev pub HaveRoom : ℕ → List ℕ → RowsAt → Type 0
HaveRoom width payload at = at.place + width * at.count ≤ length payload

abbrev pub run_of : List ℕ → ℕ × ℕ
run_of row = (slice_index row 0, slice_index row 1)

abbrev pub chunk_row_of : List ℕ → ChunkRow
chunk_row_of row = record {
  first = slice_index row 0;
  count = slice_index row 1;
  description = slice_index row 2;
}

-- rows of a count and a value: of `stts`, `ctts`, `sbgp`
unfoldable pub runs_at : List ℕ → RowsAt → List (ℕ × ℕ)
runs_at payload at = map run_of (rows at.count (4 ∷ 4 ∷ []) (drop at.place payload))

-- rows of `stsc`
unfoldable pub chunk_rows_at : List ℕ → RowsAt → List ChunkRow
chunk_rows_at payload at = map chunk_row_of (rows at.count (4 ∷ 4 ∷ 4 ∷ []) (drop at.place payload))

-- rows of one number
unfoldable pub numbers_at : ℕ → List ℕ → RowsAt → List ℕ
numbers_at width payload at = map first_number (rows at.count (width ∷ []) (drop at.place payload))

-- how many bytes an offset of a chunk takes
abbrev pub offset_width : Bool → ℕ
offset_width true = 8
offset_width false = 4

abbrev pub offsets_at : List ℕ → ChunksAt → List ℕ
offsets_at payload at = numbers_at (offset_width at.is_wide) payload at.rows

-- the sizes of samples, by their form
unfoldable pub sizes_in : SizeForm → List ℕ → RowsAt → List ℕ
sizes_in (forms.One size) payload at = replicate at.count size
sizes_in forms.Words payload at = numbers_at 4 payload at
sizes_in forms.Shorts payload at = numbers_at 2 payload at
sizes_in forms.Bytes payload at = numbers_at 1 payload at
sizes_in forms.HalfBytes payload at = half_bytes at.count (drop at.place payload)

abbrev pub sizes_at : List ℕ → SizesAt → List ℕ
sizes_at payload at = sizes_in at.form payload at.rows

-- there are bytes for all sizes
abbrev pub HaveSizes : List ℕ → SizeForm → RowsAt → Type 0
HaveSizes payload (forms.One size) at = Unit {0}
HaveSizes payload forms.Words at = at.place + 4 * at.count ≤ length payload
HaveSizes payload forms.Shorts at = at.place + 2 * at.count ≤ length payload
HaveSizes payload forms.Bytes at = at.place + at.count ≤ length payload
HaveSizes payload forms.HalfBytes at = 2 * at.place + at.count ≤ 2 * length payload
