-- What was read of a leaf is what the definition reads, and a rule that fails is a fault.
use Rattle.std.proofs.Common.{◌≡◌, ℕ, ◌+◌, ◌*◌, ◌≤◌, List, [], ◌∷◌, length, drop, map, subst, refl, ap, sym, ◌∙◌, arith, Bool, true, false, Option, Some, None, length-drop}
use Rattle.std.specs.Prelude.{bytes_eq, codes, unwrap_or, option_map, nat_le, ◌==◌}
use Rattle.mp4_boxes.specs.format.Bytes.{field, rows}
use Rattle.mp4_boxes.specs.format.Box.{Box}
use Rattle.mp4_boxes.specs.format.Children.{count_among, is_among, payload_of}
use Rattle.mp4_boxes.specs.format.Layout.{Leaf, stts, stss, sdtp, IsSound, IsReadable, version, leaf_rows, needed}
use Rattle.mp4_boxes.specs.format.Places.{leaf_of, ruled}
use Rattle.mp4_boxes.specs.declared.rule.Rule.TheVariants.{SampleTable}
use Rattle.mp4_boxes.proofs.Refusing.{holds_only, holds_few}
use Rattle.mp4_boxes.proofs.Sound.{same_kind}
use Rattle.mp4_boxes.proofs.Plain.{nat_le_yes}
use Rattle.mp4_tables.specs.format.Repeated.{total}
use Rattle.mp4_tables.specs.format.Tables.{first_number, durations_of}
use Rattle.mp4_tables.specs.words.Rows.{HaveRoom, run_of, runs_at, numbers_at}
use Rattle.mp4_tables.specs.format.TableRules.{AreReadable, IsReadableAs, is_sync_order}
use Rattle.mp4_tables.specs.words.Leaves.{boxes_of, HasTables, AllOf, IsFirstOf, RowsRead, tables_in, DurationsRead, SyncRead, DependenciesRead}
use Rattle.mp4_tables.specs.words.Accepted.{bytes_at}
use Rattle.mp4_tables.specs.declared.places.RowsAt.{RowsAt}
use Rattle.mp4_tables.specs.declared.places.BytesAt.{BytesAt}
use Rattle.mp4_tables.proofs.LeafLists.{payload_first, payload_none, all_first, all_none}
use Rattle.mp4_tables.proofs.LeafRows.{lies_in, first_is_child, room_there, runs_there, numbers_there, shape_readable, bytes_there}

-- the payload of the first of a type
pub payload_is : (kind : List ℕ) (boxes : List Box) (b : Box) → IsFirstOf kind boxes b → payload_of kind boxes ≡ b.payload
payload_is kind boxes b i = ap (λ (o : Option (List ℕ)). unwrap_or o []) (payload_first kind boxes b i)

-- one more type that can be read
pub readable_more : (kind : List ℕ) (kinds : List (List ℕ)) (boxes : List Box) → AllOf kind (IsReadableAs (leaf_of (ruled SampleTable) kind)) boxes → AreReadable kinds boxes → AreReadable (kind ∷ kinds) boxes
readable_more kind kinds [] h k = tt
readable_more kind kinds (b ∷ boxes) h k = (either (bytes_eq kind b.kind) refl h.0 k.0, readable_more kind kinds boxes h.1 k.1)
  where
    either : (v : Bool) → bytes_eq kind b.kind ≡ v → (bytes_eq kind b.kind ≡ true → IsReadableAs (leaf_of (ruled SampleTable) kind) b.payload) → (is_among kinds b.kind ≡ true → IsReadableAs (leaf_of (ruled SampleTable) b.kind) b.payload)
        → is_among (kind ∷ kinds) b.kind ≡ true → IsReadableAs (leaf_of (ruled SampleTable) b.kind) b.payload
    either true e p q m = subst (λ k. IsReadableAs (leaf_of (ruled SampleTable) k) b.payload) (sym (same_kind kind b.kind e)) (p e)
    either false e p q m = q (rw e at m)

-- ---- durations
stts_needed : (payload : List ℕ) → needed stts payload ≡ 8 + 8 * field payload 4 4
stts_needed payload = omega arith

durations_sound : (stbl b : Box) (r : RowsAt) → HasTables stbl → IsFirstOf (codes "stts") (boxes_of stbl) b → RowsRead 0 8 8 stbl b r → AllOf (codes "stts") (IsSound stts) (boxes_of stbl)
durations_sound stbl b r h i read =
    all_first (codes "stts") (IsSound stts) (boxes_of stbl) b i (omega (arith, holds_only h (codes "stts") refl))
    (record { readable = shape_readable stts 0 8 8 stbl b r refl refl (stts_needed b.payload) read; value = refl; inside = refl; offsets = refl })

pub durations_same : (stbl b : Box) (r : RowsAt) → HasTables stbl → IsFirstOf (codes "stts") (boxes_of stbl) b → RowsRead 0 8 8 stbl b r → runs_at stbl.payload r ≡ (tables_in stbl).durations
durations_same stbl b r h i read =
    runs_there 0 8 stbl b r (lies_in stbl b h (first_is_child (codes "stts") stbl b i)) read
    ∙ ap (λ n. map run_of (rows n (4 ∷ 4 ∷ []) (drop 8 b.payload))) read.count
    ∙ ap durations_of (sym (payload_is (codes "stts") (boxes_of stbl) b i))

pub durations_read : (stbl b : Box) (r : RowsAt) (n : ℕ) → HasTables stbl → IsFirstOf (codes "stts") (boxes_of stbl) b → RowsRead 0 8 8 stbl b r → (total (runs_at stbl.payload r) == n) ≡ true → DurationsRead stbl n r
durations_read stbl b r n h i read t = record {
  have = room_there 0 8 8 stbl b r (lies_in stbl b h (first_is_child (codes "stts") stbl b i)) read;
  same = durations_same stbl b r h i read;
  sound = durations_sound stbl b r h i read;
  count = ap (λ runs. total runs == n) (sym (durations_same stbl b r h i read)) ∙ t;
}

pub all_readable : (kind : List ℕ) (leaf : Leaf) (boxes : List Box) → AllOf kind (IsSound leaf) boxes → AllOf kind (IsReadable leaf) boxes
all_readable kind leaf [] h = tt
all_readable kind leaf (b ∷ boxes) h = ((λ e. (h.0 e).readable), all_readable kind leaf boxes h.1)

-- the bytes of rows that were read of the first of a type
pub rows_have : (last width : ℕ) (kind : List ℕ) (stbl b : Box) (r : RowsAt) → HasTables stbl → IsFirstOf kind (boxes_of stbl) b → RowsRead last 8 width stbl b r → HaveRoom width stbl.payload r
rows_have last width kind stbl b r h i read = room_there last 8 width stbl b r (lies_in stbl b h (first_is_child kind stbl b i)) read

-- ---- sync samples
stss_needed : (payload : List ℕ) → needed stss payload ≡ 8 + 4 * field payload 4 4
stss_needed payload = omega arith

sync_sound : (stbl b : Box) (r : RowsAt) → HasTables stbl → IsFirstOf (codes "stss") (boxes_of stbl) b → RowsRead 0 8 4 stbl b r → AllOf (codes "stss") (IsSound stss) (boxes_of stbl)
sync_sound stbl b r h i read =
    all_first (codes "stss") (IsSound stss) (boxes_of stbl) b i (holds_few h (codes "stss") refl)
    (record { readable = shape_readable stss 0 8 4 stbl b r refl refl (stss_needed b.payload) read; value = refl; inside = refl; offsets = refl })

pub sync_is : (stbl b : Box) (r : RowsAt) → HasTables stbl → IsFirstOf (codes "stss") (boxes_of stbl) b → RowsRead 0 8 4 stbl b r → (tables_in stbl).sync ≡ Some (numbers_at 4 stbl.payload r)
sync_is stbl b r h i read =
    ap (option_map (λ (payload : List ℕ). map first_number (leaf_rows stss payload))) (payload_first (codes "stss") (boxes_of stbl) b i)
    ∙ ap Some (sym (numbers_there 0 8 4 stbl b r (lies_in stbl b h (first_is_child (codes "stss") stbl b i)) read ∙ ap (λ n. map first_number (rows n (4 ∷ []) (drop 8 b.payload))) read.count))

pub sync_read : (stbl b : Box) (r : RowsAt) (n : ℕ) → HasTables stbl → IsFirstOf (codes "stss") (boxes_of stbl) b → RowsRead 0 8 4 stbl b r → is_sync_order n (numbers_at 4 stbl.payload r) ≡ true → SyncRead stbl n (Some r)
sync_read stbl b r n h i read t = record {
  have = rows_have 0 4 (codes "stss") stbl b r h i read;
  same = sym (sync_is stbl b r h i read);
  sound = sync_sound stbl b r h i read;
  ordered = ap (λ o. unwrap_or (option_map (is_sync_order n) o) true) (sync_is stbl b r h i read) ∙ t;
}

pub sync_none : (stbl : Box) (n : ℕ) → count_among (codes "stss" ∷ []) (boxes_of stbl) ≡ 0 → SyncRead stbl n None
sync_none stbl n e =
    let none : (tables_in stbl).sync ≡ None = ap (option_map (λ (payload : List ℕ). map first_number (leaf_rows stss payload))) (payload_none (codes "stss") (boxes_of stbl) e) in
    record { have = tt; same = sym none; sound = all_none (codes "stss") (IsSound stss) (boxes_of stbl) e; ordered = ap (λ o. unwrap_or (option_map (is_sync_order n) o) true) none }

-- ---- dependencies

dependencies_sound : (stbl b : Box) → HasTables stbl → IsFirstOf (codes "sdtp") (boxes_of stbl) b → version b.payload ≤ 0 → 4 ≤ length b.payload → AllOf (codes "sdtp") (IsSound sdtp) (boxes_of stbl)
dependencies_sound stbl b h i v n =
    all_first (codes "sdtp") (IsSound sdtp) (boxes_of stbl) b i (holds_few h (codes "sdtp") refl)
    (record { readable = record { version = nat_le_yes (version b.payload) 0 v; flags = refl; room = omega arith }; value = refl; inside = refl; offsets = refl })

pub dependencies_is : (stbl b : Box) → IsFirstOf (codes "sdtp") (boxes_of stbl) b → (tables_in stbl).dependencies ≡ Some (drop 4 b.payload)
dependencies_is stbl b i = ap (option_map (λ (payload : List ℕ). drop 4 payload)) (payload_first (codes "sdtp") (boxes_of stbl) b i)

pub dependencies_read : (stbl b : Box) (at : BytesAt) (n : ℕ) → HasTables stbl → IsFirstOf (codes "sdtp") (boxes_of stbl) b → version b.payload ≤ 0 → 4 ≤ length b.payload → at.length + 4 ≡ length b.payload
    → stbl.offset + stbl.header + at.place ≡ b.offset + b.header + 4 → n ≤ at.length → DependenciesRead stbl n (Some at)
dependencies_read stbl b at n h i v long e p few =
    let l = lies_in stbl b h (first_is_child (codes "sdtp") stbl b i) in
    let a = l.is in let w = l.within in
    let there = sym (bytes_there (stbl.offset + stbl.header) stbl.payload b at 4 l p e) in
    let is = dependencies_is stbl b i ∙ ap Some there in
    let long_enough : nat_le n (length (bytes_at stbl.payload at)) ≡ true = nat_le_yes n (length (bytes_at stbl.payload at)) (let m = ap (λ (xs : List ℕ). length xs) there in omega (arith, m, length-drop 4 b.payload)) in
    record {
      have = omega arith;
      same = sym is;
      sound = dependencies_sound stbl b h i v long;
      room = ap (λ o. unwrap_or (option_map (λ (bytes : List ℕ). nat_le n (length bytes)) o) true) is ∙ long_enough;
    }

pub dependencies_none : (stbl : Box) (n : ℕ) → count_among (codes "sdtp" ∷ []) (boxes_of stbl) ≡ 0 → DependenciesRead stbl n None
dependencies_none stbl n e =
    let none : (tables_in stbl).dependencies ≡ None = ap (option_map (λ (payload : List ℕ). drop 4 payload)) (payload_none (codes "sdtp") (boxes_of stbl) e) in
    record { have = tt; same = sym none; sound = all_none (codes "sdtp") (IsSound sdtp) (boxes_of stbl) e; room = ap (λ o. unwrap_or (option_map (λ (bytes : List ℕ). nat_le n (length bytes)) o) true) none }
