-- A child of an `stbl`, as it was read: where its rows lie in the payload of the `stbl`, and what its shape says of it.
use Rattle.std.proofs.Common.{◌≡◌, ℕ, zero, suc, ◌+◌, ◌-◌, ◌*◌, ◌≤◌, List, [], ◌∷◌, length, take, drop, subst, refl, ap, sym, ◌∙◌, arith, true, false, Some}
use Rattle.std.specs.Prelude.{map}
use Rattle.std.proofs.lemmas.List.{drop-drop, drop-take}
use Rattle.byteorder.specs.Numbers.{big_from-take}
use Rattle.mp4_boxes.specs.format.Bytes.{field, rows, numbers, width_of}
use Rattle.mp4_boxes.specs.format.Box.{Box, LieEndToEnd}
use Rattle.mp4_boxes.specs.format.Layout.{Leaf, IsReadable, version, last_version, needed, up_to, knows_flags}
use Rattle.mp4_boxes.proofs.Plain.{nat_le_yes}
use Rattle.mp4_tables.specs.format.Tables.{first_number}
use Rattle.mp4_tables.specs.words.Rows.{HaveRoom, run_of, chunk_row_of, runs_at, chunk_rows_at, numbers_at}
use Rattle.mp4_tables.specs.words.Accepted.{bytes_at}
use Rattle.mp4_tables.specs.declared.places.RowsAt.{RowsAt}
use Rattle.mp4_tables.specs.declared.places.BytesAt.{BytesAt}
use Rattle.mp4_tables.specs.words.Leaves.{boxes_of, HasTables, IsFirstOf, LiesIn, IsChild, RowsRead}
use Rattle.mp4_tables.proofs.LeafLists.{child_lies}

-- ---- rows of a child, where they lie in the payload of its `stbl`

pub numbers_cut : (m : ℕ) (widths bytes : List ℕ) → width_of widths ≤ m → numbers widths (take m bytes) ≡ numbers widths bytes
numbers_cut m [] bytes h = refl
numbers_cut m (w ∷ widths) bytes h =
    let first : field (take m bytes) 0 w ≡ field bytes 0 w = big_from-take 0 w m bytes (omega arith) in
    let n : m ≡ w + (m - w) = omega arith in
    let behind : drop w (take m bytes) ≡ take (m - w) (drop w bytes) = ap (λ k. drop w (take k bytes)) n ∙ drop-take w (m - w) bytes in
    let more : numbers widths (drop w (take m bytes)) ≡ numbers widths (drop w bytes) = ap (numbers widths) behind ∙ numbers_cut (m - w) widths (drop w bytes) (omega arith) in
    λ i. first i ∷ more i

rows_cut : (n m : ℕ) (widths bytes : List ℕ) → width_of widths * n ≤ m → rows n widths (take m bytes) ≡ rows n widths bytes
rows_cut zero m widths bytes h = refl
rows_cut (suc n) m widths bytes h =
    let w = width_of widths in
    let e : w * suc n ≡ w + w * n = omega arith in
    let first = numbers_cut m widths bytes (omega arith) in
    let k : m ≡ w + (m - w) = omega arith in
    let behind : drop w (take m bytes) ≡ take (m - w) (drop w bytes) = ap (λ j. drop w (take j bytes)) k ∙ drop-take w (m - w) bytes in
    let more : rows n widths (drop w (take m bytes)) ≡ rows n widths (drop w bytes) = ap (rows n widths) behind ∙ rows_cut n (m - w) widths (drop w bytes) (omega arith) in
    λ i. first i ∷ more i

pub rows_there : (at : ℕ) (bytes : List ℕ) (b : Box) (n fields place : ℕ) (widths : List ℕ) → LiesIn at bytes b → at + place ≡ b.offset + b.header + fields → fields + width_of widths * n ≤ length b.payload
    → rows n widths (drop place bytes) ≡ rows n widths (drop fields b.payload)
rows_there at bytes b n fields place widths i e h =
    let is = i.is in
    let p : place ≡ i.place + fields = omega arith in
    let l : length b.payload ≡ fields + (length b.payload - fields) = omega arith in
    let cut : drop fields b.payload ≡ take (length b.payload - fields) (drop place bytes) =
    ap (drop fields) (i.same ∙ ap (λ m. take m (drop i.place bytes)) l) ∙ drop-take fields (length b.payload - fields) (drop i.place bytes)
    ∙ ap (take (length b.payload - fields)) (drop-drop fields i.place bytes ∙ ap (λ j. drop j bytes) (sym p)) in
    sym (ap (rows n widths) cut ∙ rows_cut n (length b.payload - fields) widths (drop place bytes) (omega arith))

-- a child lies in its `stbl`
pub lies_in : (stbl b : Box) → HasTables stbl → IsChild stbl b → LiesIn (stbl.offset + stbl.header) stbl.payload b
lies_in stbl b h i = child_lies (stbl.offset + stbl.header) stbl.payload i.before i.after b (subst (LieEndToEnd false (stbl.offset + stbl.header) stbl.payload) i.is h.tiles.front.0)

pub first_is_child : (kind : List ℕ) (stbl b : Box) → IsFirstOf kind (boxes_of stbl) b → IsChild stbl b
first_is_child kind stbl b i = record { before = i.before; after = i.after; is = i.is }

-- rows that were read have their bytes in the payload of `stbl`
pub room_there : (last fields width : ℕ) (stbl b : Box) (r : RowsAt) → LiesIn (stbl.offset + stbl.header) stbl.payload b → RowsRead last fields width stbl b r → HaveRoom width stbl.payload r
room_there last fields width stbl b r i h =
    let a = i.is in let w = i.within in let p = h.place in let n = h.room in
    omega arith

pub runs_there : (last fields : ℕ) (stbl b : Box) (r : RowsAt) → LiesIn (stbl.offset + stbl.header) stbl.payload b → RowsRead last fields 8 stbl b r
    → runs_at stbl.payload r ≡ map run_of (rows r.count (4 ∷ 4 ∷ []) (drop fields b.payload))
unfolding runs_at
runs_there last fields stbl b r i h = ap (map run_of) (rows_there (stbl.offset + stbl.header) stbl.payload b r.count fields r.place (4 ∷ 4 ∷ []) i h.place h.room)

pub chunk_rows_there : (last fields : ℕ) (stbl b : Box) (r : RowsAt) → LiesIn (stbl.offset + stbl.header) stbl.payload b → RowsRead last fields 12 stbl b r
    → chunk_rows_at stbl.payload r ≡ map chunk_row_of (rows r.count (4 ∷ 4 ∷ 4 ∷ []) (drop fields b.payload))
unfolding chunk_rows_at
chunk_rows_there last fields stbl b r i h = ap (map chunk_row_of) (rows_there (stbl.offset + stbl.header) stbl.payload b r.count fields r.place (4 ∷ 4 ∷ 4 ∷ []) i h.place h.room)

pub numbers_there : (last fields width : ℕ) (stbl b : Box) (r : RowsAt) → LiesIn (stbl.offset + stbl.header) stbl.payload b → RowsRead last fields width stbl b r
    → numbers_at width stbl.payload r ≡ map first_number (rows r.count (width ∷ []) (drop fields b.payload))
unfolding numbers_at
numbers_there last fields width stbl b r i h =
    let w : width_of (width ∷ []) * r.count ≡ width * r.count = omega arith in
    let room = h.room in
    ap (map first_number) (rows_there (stbl.offset + stbl.header) stbl.payload b r.count fields r.place (width ∷ []) i h.place (omega arith))

-- ---- shapes

pub shape_readable : (leaf : Leaf) (last fields width : ℕ) (stbl b : Box) (r : RowsAt) → last_version leaf ≡ Some last → knows_flags leaf b.payload ≡ true → needed leaf b.payload ≡ fields + width * field b.payload (fields - 4) 4
    → RowsRead last fields width stbl b r → IsReadable leaf b.payload
shape_readable leaf last fields width stbl b r v g n h = record {
  version = ap (λ l. up_to l (version b.payload)) v ∙ nat_le_yes (version b.payload) last h.version;
  flags = g;
  room = subst (λ m. fields + width * m ≤ length b.payload → needed leaf b.payload ≤ length b.payload) (sym h.count) (λ l. omega arith) h.room;
}

-- bytes behind the fields of a child, where they lie in the payload of its `stbl`
pub bytes_there : (at : ℕ) (bytes : List ℕ) (b : Box) (r : BytesAt) (fields : ℕ) → LiesIn at bytes b → at + r.place ≡ b.offset + b.header + fields → r.length + fields ≡ length b.payload → bytes_at bytes r ≡ drop fields b.payload
bytes_there at bytes b r fields i e n =
    let is = i.is in
    let p : r.place ≡ i.place + fields = omega arith in
    let l : length b.payload ≡ fields + r.length = omega arith in
    sym (ap (drop fields) (i.same ∙ ap (λ m. take m (drop i.place bytes)) l) ∙ drop-take fields r.length (drop i.place bytes)
    ∙ ap (take r.length) (drop-drop fields i.place bytes ∙ ap (λ j. drop j bytes) (sym p)))
