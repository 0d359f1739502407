-- What is read of a part of a payload is read at the same place of the whole.
use Rattle.std.proofs.Common.{◌≡◌, ℕ, zero, suc, ◌+◌, ◌-◌, ◌*◌, ◌≤◌, Bool, true, false, cond, List, [], ◌∷◌, length, take, drop, map, Option, Some, None, refl, sym, ap, ◌∙◌, arith}
use Rattle.std.proofs.lemmas.List.{drop-take}
use Rattle.byteorder.specs.Numbers.{big_from-take}
use Rattle.mp4_boxes.specs.format.Bytes.{field, rows, width_of}
use Rattle.mp4_boxes.specs.format.Layout.{Column, has, present, column_values, sample_columns}
use Rattle.mp4_tables.specs.words.Rows.{run_of, runs_at}
use Rattle.mp4_frag.specs.words.ColumnsRead.{row_room}
use Rattle.mp4_frag.specs.format.Fragments.{run_rows, run_row_of}
use Rattle.mp4_frag.specs.words.Walks.{part_of}
use Rattle.mp4_frag.proofs.BoxPlaces.{part_behind, part_length}
use Rattle.mp4_tables.proofs.LeafRows.{numbers_cut}

-- ---- rows of numbers

rows_cut : (n m width : ℕ) (widths bytes : List ℕ) → width_of widths ≡ width → width * n ≤ m → rows n widths (take m bytes) ≡ rows n widths bytes
rows_cut zero m width widths bytes e h = refl
rows_cut (suc n) m width widths bytes e h =
    let whole : width + width * n ≤ m = omega arith in
    let first = numbers_cut m widths bytes (omega arith) in
    let split : m ≡ width_of widths + (m - width) = omega arith in
    let behind : drop (width_of widths) (take m bytes) ≡ take (m - width) (drop (width_of widths) bytes) = ap (λ k. drop (width_of widths) (take k bytes)) split ∙ drop-take (width_of widths) (m - width) bytes in
    let more : rows n widths (drop (width_of widths) (take m bytes)) ≡ rows n widths (drop (width_of widths) bytes) = ap (rows n widths) behind ∙ rows_cut n (m - width) width widths (drop (width_of widths) bytes) e (omega arith) in
    λ i. first i ∷ more i

-- rows of a count and a value
pub runs_in_part : (payload : List ℕ) (inside end place count : ℕ) → inside ≤ end → end ≤ length payload → place + 8 * count ≤ length (part_of payload inside end)
    → runs_at payload (record { place = inside + place; count = count }) ≡ runs_at (part_of payload inside end) (record { place = place; count = count })
unfolding runs_at
runs_in_part payload inside end place count h k room =
    let long = part_length payload inside end h k in
    let behind = part_behind payload inside place end (omega arith) in
    ap (map run_of) (sym (ap (rows count (4 ∷ 4 ∷ [])) behind ∙ rows_cut count (end - (inside + place)) 8 (4 ∷ 4 ∷ []) (drop (inside + place) payload) refl (omega arith)))

-- ---- rows of columns

column_cut : (bits m : ℕ) (c : Column) (columns : List Column) (bytes : List ℕ) (b : Bool)
    → ((n : ℕ) (rest : List ℕ) → width_of (present bits columns) ≤ n → column_values bits columns (take n rest) ≡ column_values bits columns rest)
    → width_of (cond b (c.width ∷ present bits columns) (present bits columns)) ≤ m
    → cond b (Some (field (take m bytes) 0 c.width) ∷ column_values bits columns (drop c.width (take m bytes))) (None ∷ column_values bits columns (take m bytes))
    ≡ cond b (Some (field bytes 0 c.width) ∷ column_values bits columns (drop c.width bytes)) (None ∷ column_values bits columns bytes)
column_cut bits m c columns bytes true others le =
    let first : field (take m bytes) 0 c.width ≡ field bytes 0 c.width = big_from-take 0 c.width m bytes (omega arith) in
    let split : m ≡ c.width + (m - c.width) = omega arith in
    let behind : drop c.width (take m bytes) ≡ take (m - c.width) (drop c.width bytes) = ap (λ k. drop c.width (take k bytes)) split ∙ drop-take c.width (m - c.width) bytes in
    let more = ap (column_values bits columns) behind ∙ others (m - c.width) (drop c.width bytes) (omega arith) in
    λ i. Some (first i) ∷ more i
column_cut bits m c columns bytes false others le = ap (λ (values : List (Option ℕ)). None ∷ values) (others m bytes le)

columns_cut : (bits m : ℕ) (columns : List Column) (bytes : List ℕ) → width_of (present bits columns) ≤ m → column_values bits columns (take m bytes) ≡ column_values bits columns bytes
columns_cut bits m [] bytes h = refl
columns_cut bits m (c ∷ columns) bytes h = column_cut bits m c columns bytes (has bits c.flag) (λ n rest le. columns_cut bits n columns rest le) h

run_rows_cut : (n v bits m : ℕ) (bytes : List ℕ) → n * row_room bits ≤ m → run_rows n v bits (take m bytes) ≡ run_rows n v bits bytes
run_rows_cut zero v bits m bytes h = refl
run_rows_cut (suc n) v bits m bytes h =
    let width = row_room bits in
    let whole : width + n * width ≤ m = omega arith in
    let first = columns_cut bits m sample_columns bytes (omega arith) in
    let split : m ≡ width + (m - width) = omega arith in
    let behind : drop width (take m bytes) ≡ take (m - width) (drop width bytes) = ap (λ k. drop width (take k bytes)) split ∙ drop-take width (m - width) bytes in
    let more : run_rows n v bits (drop width (take m bytes)) ≡ run_rows n v bits (drop width bytes) = ap (run_rows n v bits) behind ∙ run_rows_cut n v bits (m - width) (drop width bytes) (omega arith) in
    λ i. run_row_of v (first i) ∷ more i

-- rows of a `trun`
pub run_rows_in_part : (payload : List ℕ) (inside end place count v bits : ℕ) → inside ≤ end → end ≤ length payload → place + count * row_room bits ≤ length (part_of payload inside end)
    → run_rows count v bits (drop (inside + place) payload) ≡ run_rows count v bits (drop place (part_of payload inside end))
run_rows_in_part payload inside end place count v bits h k room =
    let long = part_length payload inside end h k in
    let behind = part_behind payload inside place end (omega arith) in
    sym (ap (run_rows count v bits) behind ∙ run_rows_cut count v bits (end - (inside + place)) (drop (inside + place) payload) (omega arith))
