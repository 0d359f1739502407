-- Rows by their places, and what is left of them.
use Rattle.std.proofs.Common.{◌≡◌, ℕ, zero, suc, ◌+◌, ◌*◌, ◌<◌, ◌≤◌, List, [], ◌∷◌, length, drop, map, slice_index, refl, ap, sym, ◌∙◌, arith}
use Rattle.std.specs.Prelude.{◌/◌, ◌%◌}
use Rattle.std.proofs.lemmas.List.{length-map, length-replicate, drop-drop, get_or-drop, get_or-replicate, drop_all, drop_more}
use Rattle.mp4_boxes.specs.format.Bytes.{field, rows, numbers, width_of}
use Rattle.mp4_tables.specs.format.Tables.{first_number, half_bytes}
use Rattle.mp4_tables.specs.words.Rows.{run_of, chunk_row_of, runs_at, chunk_rows_at, numbers_at, sizes_in}
use Rattle.mp4_tables.specs.declared.places.RowsAt.{RowsAt}
use Rattle.mp4_tables.specs.declared.places.SizeForm.{SizeForm}
use Rattle.mp4_tables.specs.declared.places.SizeForm.TheVariants as forms
use Rattle.mp4_tables.proofs.Counts.{rows_length, half_length}
use Rattle.mp4_boxes.proofs.OfBytes.{field_dropped}

-- what is left from row k on is row k and what is left behind it
pub rows_more : {R : Type 0} (f : List ℕ → R) (widths : List ℕ) (n k : ℕ) (bytes : List ℕ) → k < n
    → drop k (map f (rows n widths bytes)) ≡ f (numbers widths (drop (width_of widths * k) bytes)) ∷ drop (k + 1) (map f (rows n widths bytes))
rows_more f widths zero k bytes h = absurd (omega arith)
rows_more f widths (suc n) zero bytes h =
    let e : width_of widths * 0 ≡ 0 = omega arith in
    rw e refl
rows_more f widths (suc n) (suc k) bytes h =
    let e : width_of widths + width_of widths * k ≡ width_of widths * suc k = omega arith in
    let there : drop (width_of widths * k) (drop (width_of widths) bytes) ≡ drop (width_of widths * suc k) bytes = drop-drop (width_of widths * k) (width_of widths) bytes ∙ ap (λ m. drop m bytes) e in
    let up : suc (k + 1) ≡ suc k + 1 = omega arith in
    rows_more f widths n k (drop (width_of widths) bytes) (omega arith) ∙ ap (λ xs. f (numbers widths xs) ∷ drop (k + 1) (map f (rows n widths (drop (width_of widths) bytes)))) there
    ∙ ap (λ j. f (numbers widths (drop (width_of widths * suc k) bytes)) ∷ drop j (map f (rows (suc n) widths bytes))) up

pub rows_all : {R : Type 0} (f : List ℕ → R) (widths : List ℕ) (n k : ℕ) (bytes : List ℕ) → n ≤ k → drop k (map f (rows n widths bytes)) ≡ []
rows_all f widths n k bytes h = drop_all k (map f (rows n widths bytes)) (let e = length-map (rows n widths bytes) f ∙ rows_length n widths bytes in omega arith)

-- a field of the k-th row, where rows begin at a place
row_field : (place step k i w : ℕ) (payload : List ℕ) → field (drop i (drop (step * k) (drop place payload))) 0 w ≡ field payload (place + step * k + i) w
row_field place step k i w payload =
    field_dropped i 0 w (drop (step * k) (drop place payload)) ∙ field_dropped (step * k) (i + 0) w (drop place payload) ∙ field_dropped place (step * k + (i + 0)) w payload
    ∙ (let e : place + (step * k + (i + 0)) ≡ place + step * k + i = omega arith in ap (λ j. field payload j w) e)

row_first : (place step k w : ℕ) (payload : List ℕ) → field (drop (step * k) (drop place payload)) 0 w ≡ field payload (place + step * k) w
row_first place step k w payload =
    field_dropped (step * k) 0 w (drop place payload) ∙ field_dropped place (step * k + 0) w payload
    ∙ (let e : place + (step * k + 0) ≡ place + step * k = omega arith in ap (λ j. field payload j w) e)

-- rows of a count and a value
pub runs_more : (payload : List ℕ) (at : RowsAt) (k : ℕ) → k < at.count
    → drop k (runs_at payload at) ≡ (field payload (at.place + 8 * k) 4, field payload (at.place + 8 * k + 4) 4) ∷ drop (k + 1) (runs_at payload at)
unfolding runs_at
runs_more payload at k h =
    rows_more run_of (4 ∷ 4 ∷ []) at.count k (drop at.place payload) h
    ∙ rw (row_first at.place 8 k 4 payload, row_field at.place 8 k 4 4 payload) refl

pub runs_all : (payload : List ℕ) (at : RowsAt) (k : ℕ) → at.count ≤ k → drop k (runs_at payload at) ≡ []
unfolding runs_at
runs_all payload at k h = rows_all run_of (4 ∷ 4 ∷ []) at.count k (drop at.place payload) h

pub runs_length : (payload : List ℕ) (at : RowsAt) → length (runs_at payload at) ≡ at.count
unfolding runs_at
runs_length payload at = length-map (rows at.count (4 ∷ 4 ∷ []) (drop at.place payload)) run_of ∙ rows_length at.count (4 ∷ 4 ∷ []) (drop at.place payload)

-- rows of `stsc`
pub chunk_rows_more : (payload : List ℕ) (at : RowsAt) (k : ℕ) → k < at.count
    → drop k (chunk_rows_at payload at) ≡ record { first = field payload (at.place + 12 * k) 4; count = field payload (at.place + 12 * k + 4) 4; description = field payload (at.place + 12 * k + 8) 4 } ∷ drop (k + 1) (chunk_rows_at payload at)
unfolding chunk_rows_at
chunk_rows_more payload at k h =
    rows_more chunk_row_of (4 ∷ 4 ∷ 4 ∷ []) at.count k (drop at.place payload) h
    ∙ (let third : field (drop 4 (drop 4 (drop (12 * k) (drop at.place payload)))) 0 4 ≡ field payload (at.place + 12 * k + 8) 4 =
    ap (λ xs. field xs 0 4) (drop-drop 4 4 (drop (12 * k) (drop at.place payload))) ∙ row_field at.place 12 k 8 4 payload in
    λ i. record { first = row_first at.place 12 k 4 payload i; count = row_field at.place 12 k 4 4 payload i; description = third i } ∷ drop (k + 1) (map chunk_row_of (rows at.count (4 ∷ 4 ∷ 4 ∷ []) (drop at.place payload))))

pub chunk_rows_all : (payload : List ℕ) (at : RowsAt) (k : ℕ) → at.count ≤ k → drop k (chunk_rows_at payload at) ≡ []
unfolding chunk_rows_at
chunk_rows_all payload at k h = rows_all chunk_row_of (4 ∷ 4 ∷ 4 ∷ []) at.count k (drop at.place payload) h

pub chunk_rows_length : (payload : List ℕ) (at : RowsAt) → length (chunk_rows_at payload at) ≡ at.count
unfolding chunk_rows_at
chunk_rows_length payload at = length-map (rows at.count (4 ∷ 4 ∷ 4 ∷ []) (drop at.place payload)) chunk_row_of ∙ rows_length at.count (4 ∷ 4 ∷ 4 ∷ []) (drop at.place payload)

-- rows of one number
pub numbers_more : (width : ℕ) (payload : List ℕ) (at : RowsAt) (k : ℕ) → k < at.count
    → drop k (numbers_at width payload at) ≡ field payload (at.place + width * k) width ∷ drop (k + 1) (numbers_at width payload at)
unfolding numbers_at
numbers_more width payload at k h =
    let e : (width + 0) * k ≡ width * k = omega arith in
    rows_more first_number (width ∷ []) at.count k (drop at.place payload) h
    ∙ ap (λ j. field (drop j (drop at.place payload)) 0 width ∷ drop (k + 1) (map first_number (rows at.count (width ∷ []) (drop at.place payload)))) e
    ∙ rw (row_first at.place width k width payload) refl

pub numbers_all : (width : ℕ) (payload : List ℕ) (at : RowsAt) (k : ℕ) → at.count ≤ k → drop k (numbers_at width payload at) ≡ []
unfolding numbers_at
numbers_all width payload at k h = rows_all first_number (width ∷ []) at.count k (drop at.place payload) h

pub numbers_length : (width : ℕ) (payload : List ℕ) (at : RowsAt) → length (numbers_at width payload at) ≡ at.count
unfolding numbers_at
numbers_length width payload at = length-map (rows at.count (width ∷ []) (drop at.place payload)) first_number ∙ rows_length at.count (width ∷ []) (drop at.place payload)

-- ---- half bytes
pub half_even : (m n : ℕ) (bytes : List ℕ) → 2 * m < n → drop (2 * m) (half_bytes n bytes) ≡ field bytes m 1 / 16 ∷ drop (2 * m + 1) (half_bytes n bytes)
half_even m zero bytes h = absurd (omega arith)
half_even zero (suc zero) bytes h = refl
half_even zero (suc (suc n)) bytes h = refl
half_even (suc m) (suc zero) bytes h = absurd (omega arith)
half_even (suc m) (suc (suc n)) bytes h =
    let e : 2 * suc m ≡ suc (suc (2 * m)) = omega arith in
    let f : 2 * suc m + 1 ≡ suc (suc (2 * m + 1)) = omega arith in
    let up : 1 + m ≡ suc m = omega arith in
    rw (f, e) (half_even m n (drop 1 bytes) (omega arith) ∙ ap (λ x. x / 16 ∷ drop (2 * m + 1) (half_bytes n (drop 1 bytes))) (field_dropped 1 m 1 bytes ∙ ap (λ j. field bytes j 1) up))

pub half_odd : (m n : ℕ) (bytes : List ℕ) → 2 * m + 1 < n → drop (2 * m + 1) (half_bytes n bytes) ≡ field bytes m 1 % 16 ∷ drop (2 * m + 2) (half_bytes n bytes)
half_odd m zero bytes h = absurd (omega arith)
half_odd m (suc zero) bytes h = absurd (omega arith)
half_odd zero (suc (suc n)) bytes h = refl
half_odd (suc m) (suc (suc n)) bytes h =
    let e : 2 * suc m + 1 ≡ suc (suc (2 * m + 1)) = omega arith in
    let f : 2 * suc m + 2 ≡ suc (suc (2 * m + 2)) = omega arith in
    let up : 1 + m ≡ suc m = omega arith in
    rw (f, e) (half_odd m n (drop 1 bytes) (omega arith) ∙ ap (λ x. x % 16 ∷ drop (2 * m + 2) (half_bytes n (drop 1 bytes))) (field_dropped 1 m 1 bytes ∙ ap (λ j. field bytes j 1) up))

-- ---- sizes, by their form
pub sizes_length : (form : SizeForm) (payload : List ℕ) (at : RowsAt) → length (sizes_in form payload at) ≡ at.count
unfolding sizes_in
sizes_length (forms.One size) payload at = length-replicate at.count size
sizes_length forms.Words payload at = numbers_length 4 payload at
sizes_length forms.Shorts payload at = numbers_length 2 payload at
sizes_length forms.Bytes payload at = numbers_length 1 payload at
sizes_length forms.HalfBytes payload at = half_length at.count (drop at.place payload)

-- a list that goes on with a value behind k of its members has it there
pub first_left : (xs ys : List ℕ) (k x : ℕ) → drop k xs ≡ x ∷ ys → slice_index xs k ≡ x
first_left xs ys k x e =
    let at : slice_index (drop k xs) 0 ≡ slice_index xs (k + 0) = get_or-drop k xs 0 0 in
    let z : k + 0 ≡ k = omega arith in
    ap (slice_index xs) (sym z) ∙ sym at ∙ ap (λ l. slice_index l 0) e

pub one_size : (size : ℕ) (payload : List ℕ) (at : RowsAt) (k : ℕ) → k < at.count → slice_index (sizes_in (forms.One size) payload at) k ≡ size
unfolding sizes_in
one_size size payload at k h = get_or-replicate at.count k size 0 h

pub word_size : (payload : List ℕ) (at : RowsAt) (k : ℕ) → k < at.count → slice_index (sizes_in forms.Words payload at) k ≡ field payload (at.place + 4 * k) 4
unfolding sizes_in
word_size payload at k h = first_left _ _ k _ (numbers_more 4 payload at k h)

pub short_size : (payload : List ℕ) (at : RowsAt) (k : ℕ) → k < at.count → slice_index (sizes_in forms.Shorts payload at) k ≡ field payload (at.place + 2 * k) 2
unfolding sizes_in
short_size payload at k h = first_left _ _ k _ (numbers_more 2 payload at k h)

pub byte_size : (payload : List ℕ) (at : RowsAt) (k : ℕ) → k < at.count → slice_index (sizes_in forms.Bytes payload at) k ≡ slice_index payload (at.place + k)
unfolding sizes_in
byte_size payload at k h =
    let e : 1 * k ≡ k = omega arith in
    let one : field payload (at.place + k) 1 ≡ slice_index payload (at.place + k) = omega arith in
    first_left _ _ k _ (numbers_more 1 payload at k h) ∙ ap (λ j. field payload (at.place + j) 1) e ∙ one

pub even_size : (payload : List ℕ) (at : RowsAt) (k m : ℕ) → k < at.count → k ≡ 2 * m → slice_index (sizes_in forms.HalfBytes payload at) k ≡ slice_index payload (at.place + m) / 16
unfolding sizes_in
even_size payload at k m h e =
    let one : field payload (at.place + m) 1 ≡ slice_index payload (at.place + m) = omega arith in
    ap (slice_index (half_bytes at.count (drop at.place payload))) e ∙ first_left _ _ (2 * m) _ (half_even m at.count (drop at.place payload) (omega arith))
    ∙ ap (λ x. x / 16) (field_dropped at.place m 1 payload ∙ one)

pub odd_size : (payload : List ℕ) (at : RowsAt) (k m : ℕ) → k < at.count → k ≡ 2 * m + 1 → slice_index (sizes_in forms.HalfBytes payload at) k ≡ slice_index payload (at.place + m) % 16
unfolding sizes_in
odd_size payload at k m h e =
    let one : field payload (at.place + m) 1 ≡ slice_index payload (at.place + m) = omega arith in
    ap (slice_index (half_bytes at.count (drop at.place payload))) e ∙ first_left _ _ (2 * m + 1) _ (half_odd m at.count (drop at.place payload) (omega arith))
    ∙ ap (λ x. x % 16) (field_dropped at.place m 1 payload ∙ one)

-- a member stands in front of what is left behind it
pub sizes_more : (form : SizeForm) (payload : List ℕ) (at : RowsAt) (k : ℕ) → k < at.count → drop k (sizes_in form payload at) ≡ slice_index (sizes_in form payload at) k ∷ drop (k + 1) (sizes_in form payload at)
sizes_more form payload at k h = drop_more (sizes_in form payload at) k 0 (let e = sizes_length form payload at in omega arith)

pub ruleset halves = (even_size, odd_size)

pub ruleset whole_sizes = (one_size, word_size, short_size, byte_size)
