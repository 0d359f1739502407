-- The rows left of a run from one to the next.
use Rattle.std.proofs.Common.{◌≡◌, ℕ, zero, suc, ◌+◌, ◌-◌, ◌*◌, ◌<◌, List, [], ◌∷◌, drop, Option, None, sym, ap, ◌∙◌, arith}
use Rattle.std.proofs.Common.{Some, refl}
use Rattle.std.specs.Prelude.{option_map, pos, unwrap_or}
use Rattle.std.proofs.lemmas.List.{drop-drop}
use Rattle.byteorder.specs.Endian.{twos_complement}
use Rattle.mp4_tables.specs.format.Tables.{composition_offset}
use Rattle.mp4_frag.specs.format.FragmentSamples.{flags_of}
use Rattle.mp4_boxes.specs.format.Layout.{column_values, sample_columns}
use Rattle.mp4_frag.specs.words.ColumnsRead.{row_room}
use Rattle.mp4_frag.specs.format.Fragments.{RunRow, run_rows, run_row_of}
use Rattle.mp4_frag.specs.words.Reading.{row_values}
use Rattle.mp4_frag.specs.words.PlacesIn.{IsRowPlace, row_behind}
use Rattle.mp4_frag.specs.words.Walks.{rows_here, row_signed}
use Rattle.mp4_frag.specs.declared.places.RowPlace.{RowPlace}
use Rattle.mp4_frag.specs.declared.run_rows.ReadRow.{ReadRow}

rows_next : (n bits place : ℕ) (payload : List ℕ) → 0 < n
    → run_rows n 1 bits (drop place payload) ≡ run_row_of 1 (column_values bits sample_columns (drop place payload)) ∷ run_rows (n - 1) 1 bits (drop (place + row_room bits) payload)
rows_next zero bits place payload h = absurd (omega arith)
rows_next (suc n) bits place payload h =
    let less : n ≡ suc n - 1 = omega arith in
    let behind = drop-drop (row_room bits) place payload in
    λ i. run_row_of 1 (column_values bits sample_columns (drop place payload)) ∷ run_rows (less i) 1 bits (behind i)

-- the row in hand stands in front of those behind it
pub row_in_hand : (payload : List ℕ) (run : RowPlace) (row : ReadRow) → 0 < run.left → row_values row ≡ column_values run.bits sample_columns (drop run.row payload)
    → rows_here payload run ≡ row_signed row ∷ rows_here payload (record run { row = run.row + row_room run.bits; left = run.left - 1; first_flags = None })
unfolding rows_here
row_in_hand payload run row h e =
    rows_next run.left run.bits run.row payload h
    ∙ ap (λ (values : List (Option ℕ)). run_row_of 1 values ∷ run_rows (run.left - 1) 1 run.bits (drop (run.row + row_room run.bits) payload)) (sym e)

-- the first of the rows left
abbrev pub first_row : List ℕ → RowPlace → RunRow
first_row payload run = run_row_of 1 (column_values run.bits sample_columns (drop run.row payload))

pub row_behind_first : (payload : List ℕ) (run : RowPlace) → 0 < run.left → rows_here payload run ≡ first_row payload run ∷ rows_here payload (row_behind run)
unfolding rows_here
row_behind_first payload run h = rows_next run.left run.bits run.row payload h

-- behind the last row none is left
pub no_rows : (payload : List ℕ) (run : RowPlace) → run.left ≡ 0 → rows_here payload run ≡ []
unfolding rows_here
no_rows payload run e = ap (λ n. run_rows n 1 run.bits (drop run.row payload)) e

-- there is room for no rows
pub none_fit : (payload : List ℕ) (run : RowPlace) → run.row ≡ 0 → run.left ≡ 0 → IsRowPlace payload run
none_fit payload run row left =
    let all : run.left * row_room run.bits ≡ 0 = rw left (omega arith) in
    omega (arith, row, all)

-- an offset as it stands, 0 where there is none
pub offset_said : (o : Option ℕ) → twos_complement 4 (unwrap_or o 0) ≡ unwrap_or (option_map (composition_offset 1) o) (pos 0)
offset_said None = refl
offset_said (Some n) = refl

-- flags that are settled already, and those of the first sample
pub flags_said : (first own : Option ℕ) (last : ℕ) → flags_of first None None (unwrap_or own last) ≡ flags_of first own None last
flags_said (Some n) own last = refl
flags_said None None last = refl
flags_said None (Some n) last = refl
