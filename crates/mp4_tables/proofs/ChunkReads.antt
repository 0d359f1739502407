-- What was read of the chunks and of `stsc`, and the faults of these.
use Rattle.std.proofs.Common.{◌≡◌, ℕ, zero, suc, ◌+◌, ◌*◌, ◌<◌, ◌≤◌, List, [], ◌∷◌, length, take, drop, map, subst, refl, ap, sym, ◌∙◌, arith, Bool, true, false, Option, Some, None, length-drop, length-take}
use Rattle.std.specs.Prelude.{bytes_eq, codes, nat_eq, nat_lt, ◌==◌, ◌||◌, ◌&&◌, ℤ, pos, ◌+ℤ◌}
use Rattle.std.specs.List.{list_all}
use Rattle.std.proofs.lemmas.Bool.Decides.{nat_tests}
use Rattle.std.proofs.lemmas.List.Folds.{list_all-append}
use Rattle.mp4_boxes.specs.format.Bytes.{field, rows}
use Rattle.mp4_boxes.specs.format.Box.{Box, box_container}
use Rattle.mp4_boxes.specs.format.Children.{Holds, count_among, payload_of, chunk_offsets, one}
use Rattle.mp4_boxes.specs.format.Layout.{stsd, stsc, stco, co64, IsSound, IsReadable, leaf_rows, needed}
use Rattle.mp4_boxes.specs.declared.rule.Rule.TheVariants.{SampleTable}
use Rattle.mp4_boxes.proofs.Refusing.{holds_only, line_has}
use Rattle.mp4_boxes.proofs.Plain.{true_false}
use Rattle.mp4_tables.specs.format.Tables.{ChunkRow, first_number, chunk_rows_of, chunk_offsets_of}
use Rattle.mp4_tables.specs.format.PlainSamples.{Spot, row_of_chunk, laid_out, in_chunks, in_chunks_total}
use Rattle.mp4_tables.specs.words.Rows.{HaveRoom, chunk_row_of, chunk_rows_at, offsets_at, offset_width}
use Rattle.mp4_tables.specs.format.TableRules.{chunk_order, description_indexes, test, AreReadable, is_chunk_order, is_index}
use Rattle.mp4_tables.specs.words.TablesComing.{are_described}
use Rattle.mp4_tables.specs.words.Leaves.{boxes_of, HasTables, HasDescriptions, AllOf, IsFirstOf, surroundings_of, RowsRead, tables_in, SizesKnown, ChunksRead, ChunkRowsRead}
use Rattle.mp4_tables.specs.declared.leaves.Limits.{Limits}
use Rattle.mp4_tables.specs.declared.places.RowsAt.{RowsAt}
use Rattle.mp4_tables.specs.declared.places.ChunksAt.{ChunksAt}
use Rattle.mp4_tables.proofs.RowLists.{numbers_length}
use Rattle.mp4_tables.proofs.Counts.{eqb_is}
use Rattle.mp4_tables.proofs.LeafLists.{boxes_are, payload_first, payload_none, all_first, all_none, count_each}
use Rattle.mp4_tables.proofs.LeafRows.{lies_in, first_is_child, chunk_rows_there, numbers_there, shape_readable}
use Rattle.mp4_tables.proofs.TableReads.{payload_is, readable_more, rows_have}
use Rattle.mp4_boxes.proofs.Among.{hit_counts}

-- ---- offsets of chunks
stco_needed : (payload : List ℕ) → needed stco payload ≡ 8 + 4 * field payload 4 4
stco_needed payload = omega arith

co64_needed : (payload : List ℕ) → needed co64 payload ≡ 8 + 8 * field payload 4 4
co64_needed payload = omega arith

pub one_of_both : (stbl : Box) → HasTables stbl → count_among (codes "stco" ∷ []) (boxes_of stbl) + count_among (codes "co64" ∷ []) (boxes_of stbl) ≡ 1
one_of_both stbl h = count_each (codes "stco") (codes "co64") (boxes_of stbl) refl ∙ line_has h (codes "stco") (record { kinds = chunk_offsets; quantity = one }) refl

-- without `stco` there is `co64`
pub wide_there : (stbl : Box) → HasTables stbl → count_among (codes "stco" ∷ []) (boxes_of stbl) ≡ 0 → 0 < count_among (codes "co64" ∷ []) (boxes_of stbl)
wide_there stbl h e = let n = one_of_both stbl h in omega arith

pub first_counts : (kind : List ℕ) (boxes : List Box) (b : Box) → IsFirstOf kind boxes b → 1 ≤ count_among (kind ∷ []) boxes
first_counts kind boxes b i = some (count_among (kind ∷ []) boxes) refl
  where
    some : (n : ℕ) → count_among (kind ∷ []) boxes ≡ n → 1 ≤ count_among (kind ∷ []) boxes
    some zero e = let s : ◌≡◌ {A = Option (List ℕ)} (Some b.payload) None = sym (payload_first kind boxes b i) ∙ payload_none kind boxes e in absurd cc
    some (suc n) e = omega arith

pub narrow_read : (stbl b : Box) (r : RowsAt) → HasTables stbl → IsFirstOf (codes "stco") (boxes_of stbl) b → RowsRead 0 8 4 stbl b r → ChunksRead stbl (record { rows = r; is_wide = false })
narrow_read stbl b r h i read =
    let n = one_of_both stbl h in
    let m = first_counts (codes "stco") (boxes_of stbl) b i in
    record {
      have = rows_have 0 4 (codes "stco") stbl b r h i read;
      same = numbers_there 0 8 4 stbl b r (lies_in stbl b h (first_is_child (codes "stco") stbl b i)) read ∙ ap (λ n. map first_number (rows n (4 ∷ []) (drop 8 b.payload))) read.count
          ∙ ap (λ o. chunk_offsets_of o (payload_of (codes "co64") (boxes_of stbl))) (sym (payload_first (codes "stco") (boxes_of stbl) b i));
      narrow = all_first (codes "stco") (IsSound stco) (boxes_of stbl) b i (omega arith) (record { readable = shape_readable stco 0 8 4 stbl b r refl refl (stco_needed b.payload) read; value = refl; inside = refl; offsets = refl });
      wide = all_none (codes "co64") (IsSound co64) (boxes_of stbl) (omega arith);
    }

pub wide_read : (stbl b : Box) (r : RowsAt) → HasTables stbl → count_among (codes "stco" ∷ []) (boxes_of stbl) ≡ 0 → IsFirstOf (codes "co64") (boxes_of stbl) b → RowsRead 0 8 8 stbl b r → ChunksRead stbl (record { rows = r; is_wide = true })
wide_read stbl b r h e i read =
    let n = one_of_both stbl h in
    record {
      have = rows_have 0 8 (codes "co64") stbl b r h i read;
      same = numbers_there 0 8 8 stbl b r (lies_in stbl b h (first_is_child (codes "co64") stbl b i)) read ∙ ap (λ n. map first_number (rows n (8 ∷ []) (drop 8 b.payload))) read.count
          ∙ ap (λ (payload : List ℕ). map first_number (leaf_rows co64 payload)) (sym (payload_is (codes "co64") (boxes_of stbl) b i))
          ∙ ap (λ o. chunk_offsets_of o (payload_of (codes "co64") (boxes_of stbl))) (sym (payload_none (codes "stco") (boxes_of stbl) e));
      narrow = all_none (codes "stco") (IsSound stco) (boxes_of stbl) e;
      wide = all_first (codes "co64") (IsSound co64) (boxes_of stbl) b i (omega arith) (record { readable = shape_readable co64 0 8 8 stbl b r refl refl (co64_needed b.payload) read; value = refl; inside = refl; offsets = refl });
    }

-- ---- rows of `stsc`
stsc_needed : (payload : List ℕ) → needed stsc payload ≡ 8 + 12 * field payload 4 4
stsc_needed payload = omega arith

chunk_rows_sound : (stbl b : Box) (r : RowsAt) → HasTables stbl → IsFirstOf (codes "stsc") (boxes_of stbl) b → RowsRead 0 8 12 stbl b r → AllOf (codes "stsc") (IsSound stsc) (boxes_of stbl)
chunk_rows_sound stbl b r h i read =
    all_first (codes "stsc") (IsSound stsc) (boxes_of stbl) b i (omega (arith, holds_only h (codes "stsc") refl))
    (record { readable = shape_readable stsc 0 8 12 stbl b r refl refl (stsc_needed b.payload) read; value = refl; inside = refl; offsets = refl })

pub chunk_rows_same : (stbl b : Box) (r : RowsAt) → HasTables stbl → IsFirstOf (codes "stsc") (boxes_of stbl) b → RowsRead 0 8 12 stbl b r → chunk_rows_at stbl.payload r ≡ (tables_in stbl).chunk_rows
chunk_rows_same stbl b r h i read =
    chunk_rows_there 0 8 stbl b r (lies_in stbl b h (first_is_child (codes "stsc") stbl b i)) read
    ∙ ap (λ n. map chunk_row_of (rows n (4 ∷ 4 ∷ 4 ∷ []) (drop 8 b.payload))) read.count
    ∙ ap chunk_rows_of (sym (payload_is (codes "stsc") (boxes_of stbl) b i))

pub offsets_counted : (stbl : Box) (at : ChunksAt) → ChunksRead stbl at → length (tables_in stbl).chunk_offsets ≡ at.rows.count
offsets_counted stbl at k = ap (λ (xs : List ℕ). length xs) (sym k.same) ∙ numbers_length (offset_width at.is_wide) stbl.payload at.rows

-- the order of the rows, as the rule asks for it
pub order_as : (l : Limits) (stbl b : Box) (at : ChunksAt) (r : RowsAt) (v : Bool) → HasTables stbl → IsFirstOf (codes "stsc") (boxes_of stbl) b → RowsRead 0 8 12 stbl b r → ChunksRead stbl at
    → is_chunk_order (map (λ (row : ChunkRow). row.first) (chunk_rows_at stbl.payload r)) (nat_lt 0 at.rows.count) ≡ v → test chunk_order (surroundings_of l) (tables_in stbl) ≡ v
order_as l stbl b at r v h i read k t =
    (let c = offsets_counted stbl at k in let d = sym (chunk_rows_same stbl b r h i read) in λ j. is_chunk_order (map (λ (row : ChunkRow). row.first) (d j)) (nat_lt 0 (c j))) ∙ t

pub no_readable : (boxes : List Box) → AreReadable [] boxes
no_readable [] = tt
no_readable (b ∷ boxes) = ((λ m. absurd (never m)), no_readable boxes)
  where
    never : false ≡ true → ⊥
    never m = cc

-- of at most one box of a type, what holds of the payload that is read holds of all
only_all : (kind : List ℕ) (P : List ℕ → Type 0) (boxes : List Box) → count_among (kind ∷ []) boxes ≤ 1 → P (payload_of kind boxes) → AllOf kind P boxes
only_all kind P [] n p = tt
only_all kind P (c ∷ boxes) n p = either (bytes_eq kind c.kind) refl (only_all kind P boxes)
  where
    either : (v : Bool) → bytes_eq kind c.kind ≡ v → (count_among (kind ∷ []) boxes ≤ 1 → P (payload_of kind boxes) → AllOf kind P boxes) → AllOf kind P (c ∷ boxes)
    either true e more = (λ _. (rw e at p), all_none kind P boxes (omega (arith, n, hit_counts kind c boxes e)))
    either false e more = let m : 0 + count_among (kind ∷ []) boxes ≤ 1 = rw e at n in (λ f. absurd (true_false (bytes_eq kind c.kind) f e), more (omega (arith, m)) (rw e at p))

-- a sound `stsd` counts the descriptions
pub has_descriptions : (stbl : Box) (boxes : List Box) → Holds SampleTable (box_container stbl) boxes → IsSound stsd (payload_of (codes "stsd") boxes) → HasDescriptions stbl
has_descriptions stbl boxes h s =
    let readable = readable_more (codes "stsd") [] boxes (only_all (codes "stsd") (IsReadable stsd) boxes (omega (arith, holds_only h (codes "stsd") refl)) s.readable) (no_readable boxes) in
    subst (λ (bs : List Box). AreReadable (codes "stsd" ∷ []) bs) (sym (boxes_are stbl boxes h.tiles)) readable

pub counts_as : (stbl b : Box) (at : ChunksAt) (r : RowsAt) (n m : ℕ) (v : Bool) → HasTables stbl → IsFirstOf (codes "stsc") (boxes_of stbl) b → RowsRead 0 8 12 stbl b r → ChunksRead stbl at → m ≡ n
    → (in_chunks_total (chunk_rows_at stbl.payload r) 1 (offsets_at stbl.payload at) == n) ≡ v → (in_chunks_total (tables_in stbl).chunk_rows 1 (tables_in stbl).chunk_offsets == m) ≡ v
counts_as stbl b at r n m v h i read k e t =
    (let c = sym k.same in let d = sym (chunk_rows_same stbl b r h i read) in λ j. in_chunks_total (d j) 1 (c j) == e j) ∙ t

laid_described : (n : ℕ) (at : ℤ) (description : ℕ) (sizes : List ℕ) → list_all (λ (spot : Spot). is_index n spot.description) (laid_out at description sizes) ≡ (nat_eq (length sizes) 0 || is_index n description)
laid_described n at description [] = refl
laid_described n at description (size ∷ sizes) =
    ap (λ b. is_index n description && b) (laid_described n (at +ℤ pos size) description sizes) ∙ choose (is_index n description) (nat_eq (length sizes) 0) ∙ sym (ap (λ b. b || is_index n description) (never (length sizes)))
  where
    choose : (a b : Bool) → (a && (b || a)) ≡ a
    choose true true = refl
    choose true false = refl
    choose false b = refl

    never : (m : ℕ) → nat_eq (suc m) 0 ≡ false
    never m = grind (arith, nat_tests)

-- every sample has a description where every chunk with samples has one
spots_described : (n : ℕ) (rows : List ChunkRow) (c : ℕ) (offsets sizes : List ℕ) → in_chunks_total rows c offsets ≤ length sizes
    → list_all (λ (spot : Spot). is_index n spot.description) (in_chunks rows c offsets sizes) ≡ are_described n rows c offsets
spots_described n rows c [] sizes h = refl
spots_described n rows c (offset ∷ offsets) sizes h =
    let r = row_of_chunk rows c in
    let long : length (take r.count sizes) ≡ r.count = omega (arith, length-take r.count sizes) in
    let more = spots_described n rows (c + 1) offsets (drop r.count sizes) (omega (arith, length-drop r.count sizes)) in
    let first = laid_described n (pos offset) r.description (take r.count sizes) ∙ ap (λ m. nat_eq m 0 || is_index n r.description) long in
    list_all-append (λ (spot : Spot). is_index n spot.description) (laid_out (pos offset) r.description (take r.count sizes)) (in_chunks rows (c + 1) offsets (drop r.count sizes))
    ∙ (λ j. first j && more j)

pub described_as : (l : Limits) (stbl b : Box) (at : ChunksAt) (r : RowsAt) (n : ℕ) (v : Bool) → HasTables stbl → IsFirstOf (codes "stsc") (boxes_of stbl) b → RowsRead 0 8 12 stbl b r → ChunksRead stbl at → SizesKnown stbl n
    → (in_chunks_total (chunk_rows_at stbl.payload r) 1 (offsets_at stbl.payload at) == n) ≡ true → are_described l.descriptions (chunk_rows_at stbl.payload r) 1 (offsets_at stbl.payload at) ≡ v → test description_indexes (surroundings_of l) (tables_in stbl) ≡ v
described_as l stbl b at r n v h i read k sizes e t =
    let same = eqb_is (in_chunks_total (tables_in stbl).chunk_rows 1 (tables_in stbl).chunk_offsets) n (counts_as stbl b at r n n true h i read k refl e) in
    let c = sizes.count in
    spots_described l.descriptions (tables_in stbl).chunk_rows 1 (tables_in stbl).chunk_offsets (tables_in stbl).sizes (omega arith)
    ∙ (let c = sym k.same in let d = sym (chunk_rows_same stbl b r h i read) in λ j. are_described l.descriptions (d j) 1 (c j)) ∙ t

pub chunk_rows_read : (l : Limits) (stbl b : Box) (at : ChunksAt) (r : RowsAt) (n : ℕ) → HasTables stbl → IsFirstOf (codes "stsc") (boxes_of stbl) b → RowsRead 0 8 12 stbl b r → ChunksRead stbl at → SizesKnown stbl n
    → is_chunk_order (map (λ (row : ChunkRow). row.first) (chunk_rows_at stbl.payload r)) (nat_lt 0 at.rows.count) ≡ true → (in_chunks_total (chunk_rows_at stbl.payload r) 1 (offsets_at stbl.payload at) == n) ≡ true
    → are_described l.descriptions (chunk_rows_at stbl.payload r) 1 (offsets_at stbl.payload at) ≡ true → ChunkRowsRead l stbl n r
chunk_rows_read l stbl b at r n h i read k sizes o e t = record {
  have = rows_have 0 12 (codes "stsc") stbl b r h i read;
  same = chunk_rows_same stbl b r h i read;
  sound = chunk_rows_sound stbl b r h i read;
  ordered = order_as l stbl b at r true h i read k o;
  count = counts_as stbl b at r n n true h i read k refl e;
  described = described_as l stbl b at r n true h i read k sizes e t;
}

-- an offset of a chunk takes four bytes at least
pub narrower : (stbl : Box) (at : ChunksAt) → ChunksRead stbl at → at.rows.place + 4 * at.rows.count ≤ length stbl.payload
narrower stbl at k = of at.is_wide k.have
  where
    of : (w : Bool) → HaveRoom (offset_width w) stbl.payload at.rows → at.rows.place + 4 * at.rows.count ≤ length stbl.payload
    of true h = omega arith
    of false h = omega arith
