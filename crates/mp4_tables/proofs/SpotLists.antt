-- Where samples lie, one after the other.
use Rattle.std.proofs.Common.{◌≡◌, ℕ, ◌+◌, ◌-◌, ◌<◌, ◌≤◌, inl, inr, List, [], ◌∷◌, length, drop, slice_index, nat_le, ap, sym, ◌∙◌, arith, true, false, length-drop}
use Rattle.std.specs.Prelude.{◌&&◌}
use Rattle.std.proofs.lemmas.List.{drop_more, drop-drop, drop_all}
use Rattle.std.proofs.lemmas.Bool.{cases_lt}
use Rattle.mp4_tables.specs.format.Tables.{ChunkRow}
use Rattle.mp4_tables.specs.format.PlainSamples.{Spot, in_chunks, in_chunks_total}
use Rattle.mp4_tables.specs.words.ChunkPlaces.{LiesInChunks}
use Rattle.mp4_tables.specs.words.Rows.{chunk_rows_at, offsets_at, offset_width}
use Rattle.mp4_tables.specs.words.TablesComing.{IsRowPlace, spots_coming, no_spots, next_spot, all_lie_within, IsChunkPlace}
use Rattle.mp4_tables.specs.declared.places.ChunkPlace.{ChunkPlace}
use Rattle.mp4_tables.specs.declared.places.ChunksAt.{ChunksAt}
use Rattle.mp4_tables.specs.declared.places.RowsAt.{RowsAt}
use Rattle.mp4_tables.proofs.Counts.{chunks_length}
use Rattle.mp4_tables.proofs.RowLists.{chunk_rows_length, numbers_length}
use Rattle.mp4_tables.proofs.ChunkLists.{spots_first}

-- what is left from a place on begins with these: so does what is left one further
pub drop_next : {A : Type 0} (xs ys : List A) (k : ℕ) (x : A) → drop k xs ≡ x ∷ ys → drop (k + 1) xs ≡ ys
drop_next xs ys k x e = sym (drop-drop 1 k xs) ∙ ap (drop 1) e

-- a list has members behind as many as are fewer than all
pub some_behind : {A : Type 0} (xs : List A) (k : ℕ) → k < length xs → drop k xs ≡ [] → ⊥
some_behind xs k h e = let n = length-drop k xs in let z = ap (λ (ys : List _). length ys) e in omega arith

-- before each sample one is left in a chunk
pub spot_left : (rows : List ChunkRow) (offsets sizes : List ℕ) (p : ChunkPlace) (k : ℕ) → in_chunks_total rows 1 offsets ≡ length sizes → IsChunkPlace rows offsets sizes p k → k < length sizes → 0 < p.left
spot_left rows offsets sizes p k all at h = elim (cases_lt 0 p.left) [
  | inl some ↦ some
  | inr none ↦
      let long = chunks_length rows 1 offsets sizes (omega arith) in
      absurd (some_behind (in_chunks rows 1 offsets sizes) k (omega arith) (at.rest ∙ ap (λ f. f (drop k sizes)) (at.settled (omega arith))))
]

-- a place before a sample lies in the chunks
pub lies_in_chunks : (payload : List ℕ) (rows : RowsAt) (chunks : ChunksAt) (sizes : List ℕ) (p : ChunkPlace) (k : ℕ) → IsChunkPlace (chunk_rows_at payload rows) (offsets_at payload chunks) sizes p k → LiesInChunks payload rows chunks p
lies_in_chunks payload rows chunks sizes p k at =
    let m = numbers_length (offset_width chunks.is_wide) payload chunks.rows in
    let n = chunk_rows_length payload rows in
    let opened = at.opened in
    let passed = at.passed in
    record { at = λ h. at.row (omega arith); opened = omega arith; passed = omega arith }

-- before the first sample
pub spot_first : (rows : List ChunkRow) (offsets sizes : List ℕ) (p q : ChunkPlace) → q ≡ record { opened = 0; row = record { row = 0; samples = 0; description = 0 }; left = 0; at = 0 }
    → spots_coming rows offsets p ≡ spots_coming rows offsets q → (p.left ≡ 0 → spots_coming rows offsets p ≡ no_spots)
    → (p.opened < length offsets → IsRowPlace rows p.opened p.row) → p.opened ≤ length offsets → p.row.row ≤ length rows → IsChunkPlace rows offsets sizes p 0
unfolding spots_coming
spot_first rows offsets sizes p q e same settled row opened passed = record {
  rest = sym (ap (λ f. f sizes) (same ∙ ap (spots_coming rows offsets) e));
  settled = settled;
  row = row;
  opened = opened;
  passed = passed;
}

-- the next sample lies where the place says
pub spot_here : (rows : List ChunkRow) (offsets sizes : List ℕ) (p q : ChunkPlace) (k size : ℕ) → IsChunkPlace rows offsets sizes p k → k < length sizes → size ≡ slice_index sizes k
    → ((later : List ℕ) → spots_coming rows offsets p (size ∷ later) ≡ next_spot p size ∷ spots_coming rows offsets q later)
    → drop k (in_chunks rows 1 offsets sizes) ≡ next_spot p size ∷ spots_coming rows offsets q (drop (k + 1) sizes)
spot_here rows offsets sizes p q k size at h e next =
    at.rest ∙ ap (spots_coming rows offsets p) (drop_more sizes k 0 h ∙ ap (λ s. s ∷ drop (k + 1) sizes) (sym e)) ∙ next (drop (k + 1) sizes)

pub spot_more : (rows : List ChunkRow) (offsets sizes : List ℕ) (p q : ChunkPlace) (k size : ℕ) → IsChunkPlace rows offsets sizes p k → k < length sizes → size ≡ slice_index sizes k
    → ((later : List ℕ) → spots_coming rows offsets p (size ∷ later) ≡ next_spot p size ∷ spots_coming rows offsets q later)
    → drop k (in_chunks rows 1 offsets sizes) ≡ next_spot p size ∷ drop (k + 1) (in_chunks rows 1 offsets sizes)
spot_more rows offsets sizes p q k size at h e next =
    let here = spot_here rows offsets sizes p q k size at h e next in
    here ∙ ap (λ (ss : List Spot). next_spot p size ∷ ss) (sym (drop_next (in_chunks rows 1 offsets sizes) (spots_coming rows offsets q (drop (k + 1) sizes)) k (next_spot p size) here))

pub spot_passed : (rows : List ChunkRow) (offsets sizes : List ℕ) (p q : ChunkPlace) (k size : ℕ) → IsChunkPlace rows offsets sizes p k → k < length sizes → size ≡ slice_index sizes k
    → ((later : List ℕ) → spots_coming rows offsets p (size ∷ later) ≡ next_spot p size ∷ spots_coming rows offsets q later)
    → (q.left ≡ 0 → spots_coming rows offsets q ≡ no_spots)
    → (q.opened < length offsets → IsRowPlace rows q.opened q.row) → q.opened ≤ length offsets → q.row.row ≤ length rows → IsChunkPlace rows offsets sizes q (k + 1)
spot_passed rows offsets sizes p q k size at h e next settled row opened passed = record {
  rest = drop_next (in_chunks rows 1 offsets sizes) (spots_coming rows offsets q (drop (k + 1) sizes)) k (next_spot p size) (spot_here rows offsets sizes p q k size at h e next);
  settled = settled;
  row = row;
  opened = opened;
  passed = passed;
}

-- the next sample lies where the place says, and the others behind it
pub spot_ahead : (rows : List ChunkRow) (offsets sizes : List ℕ) (p : ChunkPlace) (k size : ℕ) → in_chunks_total rows 1 offsets ≡ length sizes → IsChunkPlace rows offsets sizes p k → k < length sizes → size ≡ slice_index sizes k
    → drop k (in_chunks rows 1 offsets sizes) ≡ next_spot p size ∷ drop (k + 1) (in_chunks rows 1 offsets sizes)
spot_ahead rows offsets sizes p k size all at h e =
    let some = spot_left rows offsets sizes p k all at h in
    spot_more rows offsets sizes p (record { opened = p.opened; row = p.row; left = p.left - 1; at = p.at + size }) k size at h e (λ later. spots_first rows offsets p size later some)

-- all lie in the file if the next one and the others do
pub within_more : (rows : List ChunkRow) (offsets sizes : List ℕ) (p : ChunkPlace) (n k size : ℕ) → in_chunks_total rows 1 offsets ≡ length sizes → IsChunkPlace rows offsets sizes p k → k < length sizes → size ≡ slice_index sizes k
    → all_lie_within n (drop k (in_chunks rows 1 offsets sizes)) ≡ (nat_le (p.at + size) n && all_lie_within n (drop (k + 1) (in_chunks rows 1 offsets sizes)))
within_more rows offsets sizes p n k size all at h e = ap (all_lie_within n) (spot_ahead rows offsets sizes p k size all at h e)

pub within_yes : (rows : List ChunkRow) (offsets sizes : List ℕ) (p : ChunkPlace) (n k size : ℕ) → in_chunks_total rows 1 offsets ≡ length sizes → IsChunkPlace rows offsets sizes p k → k < length sizes → size ≡ slice_index sizes k
    → nat_le (p.at + size) n ≡ true → all_lie_within n (drop k (in_chunks rows 1 offsets sizes)) ≡ all_lie_within n (drop (k + 1) (in_chunks rows 1 offsets sizes))
within_yes rows offsets sizes p n k size all at h e fine = within_more rows offsets sizes p n k size all at h e ∙ ap (λ b. b && all_lie_within n (drop (k + 1) (in_chunks rows 1 offsets sizes))) fine

pub within_no : (rows : List ChunkRow) (offsets sizes : List ℕ) (p : ChunkPlace) (n k size : ℕ) → in_chunks_total rows 1 offsets ≡ length sizes → IsChunkPlace rows offsets sizes p k → k < length sizes → size ≡ slice_index sizes k
    → nat_le (p.at + size) n ≡ false → all_lie_within n (drop k (in_chunks rows 1 offsets sizes)) ≡ false
within_no rows offsets sizes p n k size all at h e out = within_more rows offsets sizes p n k size all at h e ∙ ap (λ b. b && all_lie_within n (drop (k + 1) (in_chunks rows 1 offsets sizes))) out

-- behind the last sample none is left
pub within_all : (rows : List ChunkRow) (offsets sizes : List ℕ) (n k : ℕ) → in_chunks_total rows 1 offsets ≡ length sizes → length sizes ≤ k → all_lie_within n (drop k (in_chunks rows 1 offsets sizes)) ≡ true
within_all rows offsets sizes n k all h =
    let long = chunks_length rows 1 offsets sizes (omega arith) in
    ap (all_lie_within n) (drop_all k (in_chunks rows 1 offsets sizes) (omega arith))
