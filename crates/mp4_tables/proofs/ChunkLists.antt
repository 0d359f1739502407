-- The rows of `stsc`: which of them a chunk has, and where its samples lie.
use Rattle.std.proofs.Common.{◌≡◌, ℕ, suc, ◌+◌, ◌-◌, ◌<◌, ◌≤◌, List, [], ◌∷◌, ◌++◌, take, drop, map, filter, subst, refl, ap, sym, ◌∙◌, arith, Bool, true, false, nat_le, nat_lt, nat_eq, Some, None, unwrap_or}
use Rattle.std.specs.Prelude.{pos, ◌&&◌, ◌||◌, ◌==◌}
use Rattle.std.specs.List.{last_or}
use Rattle.std.proofs.lemmas.Bool.Decides.{nat_tests}
use Rattle.mp4_tables.specs.format.Tables.{ChunkRow}
use Rattle.mp4_tables.specs.format.PlainSamples.{row_of_chunk, laid_out, in_chunks, in_chunks_total}
use Rattle.mp4_tables.specs.format.TableRules.{is_rising_after, is_chunk_order, is_index}
use Rattle.mp4_tables.specs.words.TablesComing.{row_after, row_in_hand, IsRowPlace, spots_coming, no_spots, next_spot, are_described}
use Rattle.mp4_tables.specs.words.Rows.{offsets_at, offset_width, chunk_rows_at}
use Rattle.mp4_tables.specs.declared.places.RowsAt.{RowsAt}
use Rattle.mp4_tables.specs.declared.places.ChunksAt.{ChunksAt}
use Rattle.mp4_tables.specs.declared.places.ChunkRowPlace.{ChunkRowPlace}
use Rattle.mp4_tables.specs.declared.places.ChunkPlace.{ChunkPlace}
use Rattle.mp4_tables.proofs.RowLists.{numbers_more, numbers_all, chunk_rows_all}
use Rattle.mp4_boxes.proofs.Plain.{and_is_true, nat_le_no, nat_le_yes, nat_lt_is, nat_lt_yes}

pub no_lt : (a b : ℕ) → b ≤ a → nat_lt a b ≡ false
no_lt a b h = grind (arith, nat_tests)

-- numbers that rise after one rise after a lower one
pub rising_lower : (low high : ℕ) (ns : List ℕ) → low ≤ high → is_rising_after high ns ≡ true → is_rising_after low ns ≡ true
rising_lower low high [] h e = refl
rising_lower low high (n ∷ ns) h e =
    let parts = and_is_true (nat_lt high n) (is_rising_after n ns) e in
    let up = nat_lt_is high n parts.0 in
    rw (nat_lt_yes low n (omega arith)) parts.1

-- of rows that begin behind a chunk it has none
none_after : (before : ChunkRow) (rows : List ChunkRow) (c : ℕ) → is_rising_after c (map (λ (row : ChunkRow). row.first) rows) ≡ true → row_after before rows c ≡ before
none_after before [] c e = refl
none_after before (r ∷ rows) c e =
    let parts = and_is_true (nat_lt c r.first) (is_rising_after r.first (map (λ (row : ChunkRow). row.first) rows)) e in
    let up = nat_lt_is c r.first parts.0 in
    rw (nat_le_no r.first c up) (none_after before rows c (rising_lower c r.first (map (λ (row : ChunkRow). row.first) rows) (omega arith) parts.1))

last_there : (r a b : ChunkRow) (rows : List ChunkRow) → unwrap_or (last_or (Some r) rows) a ≡ unwrap_or (last_or (Some r) rows) b
last_there r a b [] = refl
last_there r a b (x ∷ rows) = last_there x a b rows

last_from : (r before : ChunkRow) (rows : List ChunkRow) → unwrap_or (last_or (Some r) rows) before ≡ unwrap_or (last_or None rows) r
last_from r before [] = refl
last_from r before (x ∷ rows) = last_there x before r rows

-- a row that begins at or before the chunk takes the place of the one before it
row_taken_up : (before r : ChunkRow) (rows : List ChunkRow) (c : ℕ) → r.first ≤ c → row_after before (r ∷ rows) c ≡ row_after r rows c
row_taken_up before r rows c h = rw (nat_le_yes r.first c h) (last_from r before (filter (λ row. nat_le row.first c) rows))

-- the row of the place is that of its chunk
pub row_here : (rows : List ChunkRow) (c : ℕ) (p : ChunkRowPlace) (at : IsRowPlace rows c p) → row_of_chunk rows c ≡ row_in_hand at.first p
row_here rows c p at = at.same c (omega arith) ∙ none_after (row_in_hand at.first p) (drop p.row rows) c at.rising

pub count_here : (rows : List ChunkRow) (c : ℕ) (p : ChunkRowPlace) → IsRowPlace rows c p → (row_of_chunk rows c).count ≡ p.samples
count_here rows c p at = ap (λ (r : ChunkRow). r.count) (row_here rows c p at)

pub description_here : (rows : List ChunkRow) (c : ℕ) (p : ChunkRowPlace) → IsRowPlace rows c p → (row_of_chunk rows c).description ≡ p.description
description_here rows c p at = ap (λ (r : ChunkRow). r.description) (row_here rows c p at)

-- the next chunk begins with the next row
pub row_taken : (rows : List ChunkRow) (c : ℕ) (p : ChunkRowPlace) (r : ChunkRow) → IsRowPlace rows c p → drop p.row rows ≡ r ∷ drop (p.row + 1) rows → r.first ≤ c + 1
    → IsRowPlace rows (c + 1) (record { row = p.row + 1; samples = r.count; description = r.description })
row_taken rows c p r at e h =
    let rise : is_rising_after c (r.first ∷ map (λ (row : ChunkRow). row.first) (drop (p.row + 1) rows)) ≡ true = ap (λ rs. is_rising_after c (map (λ (row : ChunkRow). row.first) rs)) (sym e) ∙ at.rising in
    let parts = and_is_true (nat_lt c r.first) (is_rising_after r.first (map (λ (row : ChunkRow). row.first) (drop (p.row + 1) rows))) rise in
    let up = nat_lt_is c r.first parts.0 in
    let next : r.first ≡ c + 1 = omega arith in
    record {
      first = r.first;
      same = λ d l. at.same d (omega arith) ∙ ap (λ rs. row_after (row_in_hand at.first p) rs d) e ∙ row_taken_up (row_in_hand at.first p) r (drop (p.row + 1) rows) d (omega arith);
      rising = subst (λ n. is_rising_after n (map (λ (row : ChunkRow). row.first) (drop (p.row + 1) rows)) ≡ true) next parts.1;
    }

-- it does so behind the last row
pub row_kept_last : (rows : List ChunkRow) (c : ℕ) (p : ChunkRowPlace) → IsRowPlace rows c p → drop p.row rows ≡ [] → IsRowPlace rows (c + 1) p
row_kept_last rows c p at e = record {
  first = at.first;
  same = λ d l. at.same d (omega arith);
  rising = ap (λ rs. is_rising_after (c + 1) (map (λ (row : ChunkRow). row.first) rs)) e;
}

first_order : (rows : List ChunkRow) → is_chunk_order (map (λ (row : ChunkRow). row.first) rows) true ≡ true → is_rising_after 0 (map (λ (row : ChunkRow). row.first) rows) ≡ true
first_order [] e = refl
first_order (r ∷ rows) e =
    let parts = and_is_true (r.first == 1) (is_rising_after r.first (map (λ (row : ChunkRow). row.first) rows)) e in
    let one : r.first ≡ 1 = is_one r.first parts.0 in
    rw (nat_lt_yes 0 r.first (omega arith)) parts.1
  where
    is_one : (n : ℕ) → (n == 1) ≡ true → n ≡ 1
    is_one n h = grind (arith, nat_tests)

-- before the first chunk no row holds
row_none : (rows : List ChunkRow) (has_chunks : Bool) → is_chunk_order (map (λ (row : ChunkRow). row.first) rows) has_chunks ≡ true → has_chunks ≡ true → IsRowPlace rows 0 (record { row = 0; samples = 0; description = 0 })
row_none rows has_chunks e h = record {
  first = 0;
  same = λ d l. refl;
  rising = first_order rows (ap (is_chunk_order (map (λ (row : ChunkRow). row.first) rows)) (sym h) ∙ e);
}

pub row_before : (rows : List ChunkRow) (chunks : ℕ) (p : ChunkRowPlace) → is_chunk_order (map (λ (row : ChunkRow). row.first) rows) (nat_lt 0 chunks) ≡ true → p ≡ record { row = 0; samples = 0; description = 0 } → 0 < chunks → IsRowPlace rows 0 p
row_before rows chunks p e is some = subst (λ q. IsRowPlace rows 0 q) (sym is) (row_none rows (nat_lt 0 chunks) e (nat_lt_yes 0 chunks some))

-- ---- the order of rows
pub rising_more : (rows : List ChunkRow) (low k : ℕ) (r : ChunkRow) → drop k rows ≡ r ∷ drop (k + 1) rows
    → is_rising_after low (map (λ (row : ChunkRow). row.first) (drop k rows)) ≡ (nat_lt low r.first && is_rising_after r.first (map (λ (row : ChunkRow). row.first) (drop (k + 1) rows)))
rising_more rows low k r e = ap (λ rs. is_rising_after low (map (λ (row : ChunkRow). row.first) rs)) e

pub rising_all : (payload : List ℕ) (at : RowsAt) (low k : ℕ) → at.count ≤ k → is_rising_after low (map (λ (row : ChunkRow). row.first) (drop k (chunk_rows_at payload at))) ≡ true
rising_all payload at low k h = ap (λ rs. is_rising_after low (map (λ (row : ChunkRow). row.first) rs)) (chunk_rows_all payload at k h)

pub ruleset rising = (rising_more, rising_all)

-- ---- samples of chunks

-- a place with nothing left opens the next chunk
pub spots_more : (rows : List ChunkRow) (offsets : List ℕ) (k at : ℕ) (was p : ChunkRowPlace) (offset : ℕ) → drop k offsets ≡ offset ∷ drop (k + 1) offsets → IsRowPlace rows (k + 1) p
    → spots_coming rows offsets (record { opened = k; row = was; left = 0; at = at }) ≡ spots_coming rows offsets (record { opened = k + 1; row = p; left = p.samples; at = offset })
unfolding spots_coming
spots_more rows offsets k at was p offset e row =
    let count = count_here rows (k + 1) p row in
    let description = description_here rows (k + 1) p row in
    let opens : (sizes : List ℕ) → in_chunks rows (k + 1) (offset ∷ drop (k + 1) offsets) sizes
    ≡ laid_out (pos offset) p.description (take p.samples sizes) ++ in_chunks rows (k + 1 + 1) (drop (k + 1) offsets) (drop p.samples sizes) = λ sizes. rw (count, description) refl in
    λ i sizes. (ap (λ os. in_chunks rows (k + 1) os sizes) e ∙ opens sizes) i

pub spots_all : (rows : List ChunkRow) (offsets : List ℕ) (k at : ℕ) (was : ChunkRowPlace) → drop k offsets ≡ [] → spots_coming rows offsets (record { opened = k; row = was; left = 0; at = at }) ≡ no_spots
unfolding spots_coming
spots_all rows offsets k at was e = λ i sizes. ap (λ os. in_chunks rows (k + 1) os sizes) e i

-- the next sample lies where the place says
pub spots_first : (rows : List ChunkRow) (offsets : List ℕ) (p : ChunkPlace) (size : ℕ) (sizes : List ℕ) → 0 < p.left
    → spots_coming rows offsets p (size ∷ sizes) ≡ next_spot p size ∷ spots_coming rows offsets (record { opened = p.opened; row = p.row; left = p.left - 1; at = p.at + size }) sizes
unfolding spots_coming
spots_first rows offsets p size sizes h =
    let e : p.left ≡ suc (p.left - 1) = omega arith in
    ap (λ n. laid_out (pos p.at) p.row.description (take n (size ∷ sizes)) ++ in_chunks rows (p.opened + 1) (drop p.opened offsets) (drop n (size ∷ sizes))) e

-- how many samples the chunks from the next one on hold
pub samples_more : (payload : List ℕ) (chunks : ChunksAt) (rows : List ChunkRow) (k : ℕ) (p : ChunkRowPlace) → k < chunks.rows.count → IsRowPlace rows (k + 1) p
    → in_chunks_total rows (k + 1) (drop k (offsets_at payload chunks)) ≡ p.samples + in_chunks_total rows (k + 1 + 1) (drop (k + 1) (offsets_at payload chunks))
samples_more payload chunks rows k p h at =
    ap (in_chunks_total rows (k + 1)) (numbers_more (offset_width chunks.is_wide) payload chunks.rows k h)
    ∙ ap (λ n. n + in_chunks_total rows (k + 1 + 1) (drop (k + 1) (offsets_at payload chunks))) (count_here rows (k + 1) p at)

pub samples_all : (payload : List ℕ) (chunks : ChunksAt) (rows : List ChunkRow) (k : ℕ) → chunks.rows.count ≤ k → in_chunks_total rows (k + 1) (drop k (offsets_at payload chunks)) ≡ 0
samples_all payload chunks rows k h = ap (in_chunks_total rows (k + 1)) (numbers_all (offset_width chunks.is_wide) payload chunks.rows k h)

-- whether the chunks from the next one on have descriptions
described_more : (payload : List ℕ) (chunks : ChunksAt) (rows : List ChunkRow) (n k : ℕ) (p : ChunkRowPlace) → k < chunks.rows.count → IsRowPlace rows (k + 1) p
    → are_described n rows (k + 1) (drop k (offsets_at payload chunks)) ≡ ((nat_eq p.samples 0 || is_index n p.description) && are_described n rows (k + 1 + 1) (drop (k + 1) (offsets_at payload chunks)))
described_more payload chunks rows n k p h at =
    ap (are_described n rows (k + 1)) (numbers_more (offset_width chunks.is_wide) payload chunks.rows k h)
    ∙ (let count = count_here rows (k + 1) p at in let description = description_here rows (k + 1) p at in
    λ i. (nat_eq (count i) 0 || is_index n (description i)) && are_described n rows (k + 1 + 1) (drop (k + 1) (offsets_at payload chunks)))

pub described_yes : (payload : List ℕ) (chunks : ChunksAt) (rows : List ChunkRow) (n k : ℕ) (p : ChunkRowPlace) → k < chunks.rows.count → IsRowPlace rows (k + 1) p
    → (nat_eq p.samples 0 || is_index n p.description) ≡ true → are_described n rows (k + 1) (drop k (offsets_at payload chunks)) ≡ are_described n rows (k + 1 + 1) (drop (k + 1) (offsets_at payload chunks))
described_yes payload chunks rows n k p h at e =
    described_more payload chunks rows n k p h at ∙ ap (λ b. b && are_described n rows (k + 1 + 1) (drop (k + 1) (offsets_at payload chunks))) e

pub described_no : (payload : List ℕ) (chunks : ChunksAt) (rows : List ChunkRow) (n k : ℕ) (p : ChunkRowPlace) → k < chunks.rows.count → IsRowPlace rows (k + 1) p
    → (nat_eq p.samples 0 || is_index n p.description) ≡ false → are_described n rows (k + 1) (drop k (offsets_at payload chunks)) ≡ false
described_no payload chunks rows n k p h at e =
    described_more payload chunks rows n k p h at ∙ ap (λ b. b && are_described n rows (k + 1 + 1) (drop (k + 1) (offsets_at payload chunks))) e

pub described_all : (payload : List ℕ) (chunks : ChunksAt) (rows : List ChunkRow) (n k : ℕ) → chunks.rows.count ≤ k → are_described n rows (k + 1) (drop k (offsets_at payload chunks)) ≡ true
described_all payload chunks rows n k h = ap (are_described n rows (k + 1)) (numbers_all (offset_width chunks.is_wide) payload chunks.rows k h)

-- a place with nothing left opens the next chunk, and behind the last there are no samples
pub opened_more : (payload : List ℕ) (chunks : ChunksAt) (rows : List ChunkRow) (k at offset : ℕ) (was p : ChunkRowPlace) → drop k (offsets_at payload chunks) ≡ offset ∷ drop (k + 1) (offsets_at payload chunks) → IsRowPlace rows (k + 1) p
    → spots_coming rows (offsets_at payload chunks) (record { opened = k + 1; row = p; left = p.samples; at = offset }) ≡ spots_coming rows (offsets_at payload chunks) (record { opened = k; row = was; left = 0; at = at })
opened_more payload chunks rows k at offset was p e row = sym (spots_more rows (offsets_at payload chunks) k at was p offset e row)

pub opened_all : (payload : List ℕ) (chunks : ChunksAt) (rows : List ChunkRow) (p : ChunkPlace) → chunks.rows.count ≤ p.opened → p.left ≡ 0
    → spots_coming rows (offsets_at payload chunks) p ≡ no_spots
opened_all payload chunks rows p h e =
    ap (λ n. spots_coming rows (offsets_at payload chunks) (record { opened = p.opened; row = p.row; left = n; at = p.at })) e
    ∙ spots_all rows (offsets_at payload chunks) p.opened p.at p.row (numbers_all (offset_width chunks.is_wide) payload chunks.rows p.opened h)

pub ruleset chunk_samples = (samples_more, samples_all)

pub ruleset opening = (opened_more, opened_all)

-- a sum that has passed a number is not that number
pub passed_by : (whole n counted left : ℕ) → counted + left ≡ whole → n < counted → false ≡ (whole == n)
passed_by whole n counted left e h = let more : n < whole = omega arith in grind (arith, nat_tests)
