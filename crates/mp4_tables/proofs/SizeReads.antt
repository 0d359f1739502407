-- What was read of `stsz` or `stz2`, and the faults of these.
use Rattle.std.proofs.Common.{◌≡◌, ◌≢◌, ℕ, zero, suc, ◌+◌, ◌-◌, ◌*◌, ◌/◌, ◌<◌, ◌≤◌, List, [], ◌∷◌, length, take, drop, map, replicate, subst, refl, ap, sym, ◌∙◌, arith, Bool, true, false, cond}
use Rattle.std.specs.Prelude.{codes, ◌==◌, ◌%◌, not, slice_index}
use Rattle.std.specs.Int.{div_ceil}
use Rattle.std.proofs.lemmas.List.{drop-drop, drop-take}
use Rattle.std.proofs.lemmas.Bool.Decides.{nat_tests}
use Rattle.mp4_boxes.specs.format.Bytes.{field, rows}
use Rattle.mp4_boxes.specs.format.Box.{Box}
use Rattle.mp4_boxes.specs.format.Children.{count_among, payload_of, sample_sizes, one}
use Rattle.mp4_boxes.specs.format.Layout.{stsz, stz2, IsSound, IsReadable, version, leaf_rows, needed, rows_size, size_bits, is_size_bits}
use Rattle.mp4_boxes.proofs.Refusing.{line_has}
use Rattle.mp4_boxes.proofs.Plain.{nat_le_yes}
use Rattle.mp4_tables.specs.format.Tables.{first_number, half_bytes, sample_count, sizes_of, compact_sizes_of, sample_sizes_of}
use Rattle.mp4_tables.specs.words.Rows.{HaveSizes, numbers_at, sizes_in}
use Rattle.mp4_tables.specs.format.TableRules.{AreReadable}
use Rattle.mp4_tables.specs.words.Leaves.{boxes_of, HasTables, AllOf, IsFirstOf, LiesIn, SizesKnown, SizesRead, IsFormOf}
use Rattle.mp4_tables.specs.declared.leaves.Limits.{Limits}
use Rattle.mp4_tables.specs.declared.places.RowsAt.{RowsAt}
use Rattle.mp4_tables.specs.declared.places.SizesAt.{SizesAt}
use Rattle.mp4_tables.specs.declared.places.SizeForm.{SizeForm}
use Rattle.mp4_tables.specs.declared.places.SizeForm.TheVariants as forms
use Rattle.mp4_tables.proofs.RowLists.{sizes_length}
use Rattle.mp4_tables.proofs.LeafLists.{payload_first, payload_none, all_first, all_none, count_each}
use Rattle.mp4_tables.proofs.LeafRows.{lies_in, first_is_child, rows_there}
use Rattle.mp4_tables.proofs.TableReads.{payload_is, readable_more, all_readable}
use Rattle.mp4_tables.proofs.ChunkReads.{first_counts, no_readable}

pub one_of_both : (stbl : Box) → HasTables stbl → count_among (codes "stsz" ∷ []) (boxes_of stbl) + count_among (codes "stz2" ∷ []) (boxes_of stbl) ≡ 1
one_of_both stbl h = count_each (codes "stsz") (codes "stz2") (boxes_of stbl) refl ∙ line_has h (codes "stsz") (record { kinds = sample_sizes; quantity = one }) refl

-- without `stsz` there is `stz2`
pub compact_there : (stbl : Box) → HasTables stbl → count_among (codes "stsz" ∷ []) (boxes_of stbl) ≡ 0 → 0 < count_among (codes "stz2" ∷ []) (boxes_of stbl)
compact_there stbl h e = let n = one_of_both stbl h in omega arith

-- the sizes can be read, in one of both boxes
sizes_readable : (stbl : Box) → AllOf (codes "stsz") (IsReadable stsz) (boxes_of stbl) → AllOf (codes "stz2") (IsReadable stz2) (boxes_of stbl) → AreReadable sample_sizes (boxes_of stbl)
sizes_readable stbl a b = readable_more (codes "stsz") (codes "stz2" ∷ []) (boxes_of stbl) a (readable_more (codes "stz2") [] (boxes_of stbl) b (no_readable (boxes_of stbl)))

-- the sizes of a check's answer are known
pub sizes_known : (l : Limits) (stbl : Box) (at : SizesAt) → SizesRead l stbl at → SizesKnown stbl at.rows.count
sizes_known l stbl at k = record {
  count = ap (λ (xs : List ℕ). length xs) (sym k.same) ∙ sizes_length at.form stbl.payload at.rows;
  readable = sizes_readable stbl (all_readable (codes "stsz") stsz (boxes_of stbl) k.words) (all_readable (codes "stz2") stz2 (boxes_of stbl) k.compact);
}

-- ---- `stsz`
pub words_needed : (payload : List ℕ) (v : Bool) → (field payload 4 4 == 0) ≡ v → needed stsz payload ≡ 12 + 4 * cond v (field payload 8 4) 0
words_needed payload v e =
    let c = ap (λ b. cond b (field payload 8 4) 0) e in omega arith

-- there is room for the sizes of a `stsz`, where it has them
abbrev pub WordsHave : Box → Bool → Type 0
WordsHave b true = 12 + 4 * field b.payload 8 4 ≤ length b.payload
WordsHave b false = 12 ≤ length b.payload

words_readable : (b : Box) (v : Bool) → (field b.payload 4 4 == 0) ≡ v → version b.payload ≤ 0 → WordsHave b v → IsReadable stsz b.payload
words_readable b true e v h = record { version = nat_le_yes (version b.payload) 0 v; flags = refl; room = (let n = words_needed b.payload true e in omega arith) }
words_readable b false e v h = record { version = nat_le_yes (version b.payload) 0 v; flags = refl; room = (let n = words_needed b.payload false e in omega arith) }

words_all : (stbl b : Box) (v : Bool) → HasTables stbl → IsFirstOf (codes "stsz") (boxes_of stbl) b → (field b.payload 4 4 == 0) ≡ v → version b.payload ≤ 0 → WordsHave b v → AllOf (codes "stsz") (IsSound stsz) (boxes_of stbl)
words_all stbl b v h i e k w =
    let n = one_of_both stbl h in
    all_first (codes "stsz") (IsSound stsz) (boxes_of stbl) b i (omega arith) (record { readable = words_readable b v e k w; value = refl; inside = refl; offsets = refl })

no_compact : (stbl b : Box) → HasTables stbl → IsFirstOf (codes "stsz") (boxes_of stbl) b → AllOf (codes "stz2") (IsSound stz2) (boxes_of stbl)
no_compact stbl b h i =
    let n = one_of_both stbl h in
    let m = first_counts (codes "stsz") (boxes_of stbl) b i in
    all_none (codes "stz2") (IsSound stz2) (boxes_of stbl) (omega arith)

-- the form of the sizes of a `stsz`
abbrev pub words_form : Bool → ℕ → SizeForm
words_form true size = forms.Words
words_form false size = forms.One size

words_same : (stbl b : Box) (v : Bool) (r : RowsAt) → LiesIn (stbl.offset + stbl.header) stbl.payload b → (field b.payload 4 4 == 0) ≡ v → WordsHave b v → r.count ≡ field b.payload 8 4 → stbl.offset + stbl.header + r.place ≡ b.offset + b.header + 12
    → (sizes_in (words_form v (field b.payload 4 4)) stbl.payload r ≡ sizes_of b.payload) × HaveSizes stbl.payload (words_form v (field b.payload 4 4)) r
unfolding sizes_in numbers_at
words_same stbl b true r i e w c p =
    let a = i.is in
    let k = i.within in (
      ap (map first_number) (rows_there (stbl.offset + stbl.header) stbl.payload b r.count 12 r.place (4 ∷ []) i p (omega arith)) ∙ ap (λ n. map first_number (rows n (4 ∷ []) (drop 12 b.payload))) (c ∙ sym (ap (λ y. cond y (field b.payload 8 4) 0) e))
          ∙ sym (ap (λ y. cond y (map first_number (leaf_rows stsz b.payload)) (replicate (sample_count b.payload) (field b.payload 4 4))) e),
      omega arith,
    )
words_same stbl b false r i e w c p =
    (ap (λ n. replicate n (field b.payload 4 4)) c ∙ sym (ap (λ y. cond y (map first_number (leaf_rows stsz b.payload)) (replicate (sample_count b.payload) (field b.payload 4 4))) e), tt)

pub words_read : (l : Limits) (stbl b : Box) (v : Bool) (r : RowsAt) → HasTables stbl → IsFirstOf (codes "stsz") (boxes_of stbl) b → (field b.payload 4 4 == 0) ≡ v → version b.payload ≤ 0 → WordsHave b v
    → r.count ≡ field b.payload 8 4 → stbl.offset + stbl.header + r.place ≡ b.offset + b.header + 12 → r.count ≤ l.room → SizesRead l stbl (record { form = words_form v (field b.payload 4 4); rows = r })
words_read l stbl b v r h i e k w c p few =
    let s = words_same stbl b v r (lies_in stbl b h (first_is_child (codes "stsz") stbl b i)) e w c p in
    record {
      have = s.1;
      same = s.0 ∙ ap (λ o. sample_sizes_of o (payload_of (codes "stz2") (boxes_of stbl))) (sym (payload_first (codes "stsz") (boxes_of stbl) b i));
      words = words_all stbl b v h i e k w;
      compact = no_compact stbl b h i;
      few = few;
    }

-- ---- `stz2`
pub compact_needed : (payload : List ℕ) → needed stz2 payload ≡ 12 + rows_size stz2 payload
compact_needed payload = omega arith

compact_readable : (b : Box) → version b.payload ≤ 0 → 12 + rows_size stz2 b.payload ≤ length b.payload → IsReadable stz2 b.payload
compact_readable b v h = record { version = nat_le_yes (version b.payload) 0 v; flags = refl; room = (let n = compact_needed b.payload in omega arith) }

half_cut : (n m : ℕ) (bytes : List ℕ) → n ≤ 2 * m → half_bytes n (take m bytes) ≡ half_bytes n bytes
half_cut zero m bytes h = refl
half_cut (suc zero) zero bytes h = absurd (omega arith)
half_cut (suc zero) (suc m) [] h = refl
half_cut (suc zero) (suc m) (b ∷ bytes) h = refl
half_cut (suc (suc n)) zero bytes h = absurd (omega arith)
half_cut (suc (suc n)) (suc m) [] h = refl
half_cut (suc (suc n)) (suc m) (b ∷ bytes) h = ap (λ xs. field (b ∷ bytes) 0 1 / 16 ∷ field (b ∷ bytes) 0 1 % 16 ∷ xs) (half_cut n m bytes (omega arith))

half_there : (at : ℕ) (bytes : List ℕ) (b : Box) (n place : ℕ) → LiesIn at bytes b → at + place ≡ b.offset + b.header + 12 → 24 + n ≤ 2 * length b.payload → half_bytes n (drop place bytes) ≡ half_bytes n (drop 12 b.payload)
half_there at bytes b n place i e h =
    let is = i.is in
    let p : place ≡ i.place + 12 = omega arith in
    let l : length b.payload ≡ 12 + (length b.payload - 12) = omega arith in
    let cut : drop 12 b.payload ≡ take (length b.payload - 12) (drop place bytes) =
    ap (drop 12) (i.same ∙ ap (λ m. take m (drop i.place bytes)) l) ∙ drop-take 12 (length b.payload - 12) (drop i.place bytes)
    ∙ ap (take (length b.payload - 12)) (drop-drop 12 i.place bytes ∙ ap (λ j. drop j bytes) (sym p)) in
    sym (ap (half_bytes n) cut ∙ half_cut n (length b.payload - 12) (drop place bytes) (omega arith))

compact_same : (stbl b : Box) (form : SizeForm) (r : RowsAt) → LiesIn (stbl.offset + stbl.header) stbl.payload b → IsFormOf form (size_bits b.payload) → 12 + rows_size stz2 b.payload ≤ length b.payload → r.count ≡ field b.payload 8 4 → stbl.offset + stbl.header + r.place ≡ b.offset + b.header + 12
    → (sizes_in form stbl.payload r ≡ compact_sizes_of b.payload) × HaveSizes stbl.payload form r × (is_size_bits (size_bits b.payload) ≡ true)
unfolding sizes_in numbers_at
compact_same stbl b (forms.One size) r i f w c p = absurd f
compact_same stbl b forms.Words r i f w c p = absurd f
compact_same stbl b forms.Shorts r i f w c p =
    let a = i.is in let k = i.within in
    let room : 12 + div_ceil (field b.payload 8 4 * 16) 8 ≤ length b.payload = subst (λ n. 12 + (cond (is_size_bits n) (div_ceil (field b.payload 8 4 * n) 8) 0) ≤ length b.payload) f w in (
      ap (map first_number) (rows_there (stbl.offset + stbl.header) stbl.payload b r.count 12 r.place (2 ∷ []) i p (omega arith)) ∙ ap (λ n. map first_number (rows n (2 ∷ []) (drop 12 b.payload))) c
          ∙ sym (ap (λ n. cond (n == 4) (half_bytes (sample_count b.payload) (drop 12 b.payload)) (map first_number (rows (sample_count b.payload) (n / 8 ∷ []) (drop 12 b.payload)))) f),
      omega arith,
      ap is_size_bits f,
    )
compact_same stbl b forms.Bytes r i f w c p =
    let a = i.is in let k = i.within in
    let room : 12 + div_ceil (field b.payload 8 4 * 8) 8 ≤ length b.payload = subst (λ n. 12 + (cond (is_size_bits n) (div_ceil (field b.payload 8 4 * n) 8) 0) ≤ length b.payload) f w in (
      ap (map first_number) (rows_there (stbl.offset + stbl.header) stbl.payload b r.count 12 r.place (1 ∷ []) i p (omega arith)) ∙ ap (λ n. map first_number (rows n (1 ∷ []) (drop 12 b.payload))) c
          ∙ sym (ap (λ n. cond (n == 4) (half_bytes (sample_count b.payload) (drop 12 b.payload)) (map first_number (rows (sample_count b.payload) (n / 8 ∷ []) (drop 12 b.payload)))) f),
      omega arith,
      ap is_size_bits f,
    )
compact_same stbl b forms.HalfBytes r i f w c p =
    let a = i.is in let k = i.within in
    let room : 12 + div_ceil (field b.payload 8 4 * 4) 8 ≤ length b.payload = subst (λ n. 12 + (cond (is_size_bits n) (div_ceil (field b.payload 8 4 * n) 8) 0) ≤ length b.payload) f w in (
      half_there (stbl.offset + stbl.header) stbl.payload b r.count r.place i p (omega arith) ∙ ap (λ n. half_bytes n (drop 12 b.payload)) c
          ∙ sym (ap (λ n. cond (n == 4) (half_bytes (sample_count b.payload) (drop 12 b.payload)) (map first_number (rows (sample_count b.payload) (n / 8 ∷ []) (drop 12 b.payload)))) f),
      omega arith,
      ap is_size_bits f,
    )

pub compact_read : (l : Limits) (stbl b : Box) (form : SizeForm) (r : RowsAt) → HasTables stbl → count_among (codes "stsz" ∷ []) (boxes_of stbl) ≡ 0 → IsFirstOf (codes "stz2") (boxes_of stbl) b → version b.payload ≤ 0 → IsFormOf form (size_bits b.payload)
    → 12 + rows_size stz2 b.payload ≤ length b.payload
    → r.count ≡ field b.payload 8 4 → stbl.offset + stbl.header + r.place ≡ b.offset + b.header + 12 → r.count ≤ l.room → SizesRead l stbl (record { form = form; rows = r })
compact_read l stbl b form r h none i v f w c p few =
    let s = compact_same stbl b form r (lies_in stbl b h (first_is_child (codes "stz2") stbl b i)) f w c p in
    let n = one_of_both stbl h in
    record {
      have = s.1;
      same = s.0 ∙ ap compact_sizes_of (sym (payload_is (codes "stz2") (boxes_of stbl) b i)) ∙ ap (λ o. sample_sizes_of o (payload_of (codes "stz2") (boxes_of stbl))) (sym (payload_none (codes "stsz") (boxes_of stbl) none));
      words = all_none (codes "stsz") (IsSound stsz) (boxes_of stbl) none;
      compact = all_first (codes "stz2") (IsSound stz2) (boxes_of stbl) b i (omega arith) (record { readable = compact_readable b v w; value = ap not s.2; inside = refl; offsets = refl });
      few = few;
    }

pub is_zero : (n m : ℕ) → n ≡ m → n ≡ 0 → (m == 0) ≡ true
is_zero n m e z = let y : m ≡ 0 = sym e ∙ z in grind (arith, nat_tests)

pub is_some : (n m : ℕ) → n ≡ m → (n ≡ 0 → ⊥) → (m == 0) ≡ false
is_some n m e z = let y : m ≢ 0 = λ f. z (e ∙ f) in grind (arith, nat_tests)

pub one_size_read : (l : Limits) (stbl b : Box) (size : ℕ) (r : RowsAt) → HasTables stbl → IsFirstOf (codes "stsz") (boxes_of stbl) b → size ≡ field b.payload 4 4 → (size ≡ 0 → ⊥) → version b.payload ≤ 0 → 12 ≤ length b.payload
    → r.count ≡ field b.payload 8 4 → stbl.offset + stbl.header + r.place ≡ b.offset + b.header + 12 → r.count ≤ l.room → SizesRead l stbl (record { form = forms.One size; rows = r })
one_size_read l stbl b size r h i e z k w c p few =
    subst (λ n. SizesRead l stbl (record { form = forms.One n; rows = r })) (sym e) (words_read l stbl b false r h i (is_some size (field b.payload 4 4) e z) k w c p few)

-- the bits of a compact size
pub bits_are : (payload : List ℕ) (bits : ℕ) → bits ≡ slice_index payload 7 → bits ≡ size_bits payload
bits_are payload bits e = let f : size_bits payload ≡ slice_index payload 7 = omega arith in e ∙ sym f

-- how many bytes compact sizes take, from what was read
pub compact_len_is : (b : Box) (payload : List ℕ) (bits count len : ℕ) → payload ≡ b.payload → bits ≡ slice_index payload 7 → count ≡ field payload 8 4 → len ≡ cond (is_size_bits bits) (div_ceil (count * bits) 8) 0 → len ≡ rows_size stz2 b.payload
compact_len_is b payload bits count len e f g h =
    let p = bits_are payload bits f in
    h ∙ (λ i. cond (is_size_bits (p i)) (div_ceil (g i * p i) 8) 0) ∙ ap (rows_size stz2) e
