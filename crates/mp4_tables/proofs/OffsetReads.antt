-- What was read of `ctts`, and its faults.
use Rattle.std.proofs.Common.{◌≡◌, ℕ, ◌+◌, ◌*◌, ◌^◌, ◌<◌, ◌≤◌, List, [], ◌∷◌, drop, map, refl, ap, sym, ◌∙◌, arith, Bool, true, false, Some, None}
use Rattle.std.specs.Prelude.{codes, unwrap_or, option_map, nat_eq, nat_le, nat_lt, ◌==◌, ◌||◌, ◌&&◌, not, slice_index, ℤ}
use Rattle.std.specs.List.{AllByRecursion}
use Rattle.std.proofs.lemmas.Bool.Decides.{nat_tests}
use Rattle.mp4_boxes.specs.format.Bytes.{field, rows}
use Rattle.mp4_boxes.specs.format.Box.{Box}
use Rattle.mp4_boxes.specs.format.Children.{count_among}
use Rattle.mp4_boxes.specs.format.Layout.{ctts, IsSound, IsReadable, version, leaf_rows, needed, too_large, has_large_offset}
use Rattle.mp4_boxes.proofs.Refusing.{holds_few}
use Rattle.mp4_boxes.proofs.Plain.{and_is_true, nat_lt_is}
use Rattle.mp4_tables.specs.format.Repeated.{total}
use Rattle.mp4_tables.specs.format.Tables.{composition_offset, offsets_of}
use Rattle.mp4_tables.specs.words.Rows.{run_of, runs_at}
use Rattle.mp4_tables.specs.words.TablesComing.{all_below}
use Rattle.mp4_tables.specs.words.Accepted.{composition_offsets_at, AreSmall, offset_version}
use Rattle.mp4_tables.specs.words.Leaves.{boxes_of, HasTables, IsFirstOf, RowsRead, tables_in, OffsetsRead}
use Rattle.mp4_tables.specs.declared.places.RowsAt.{RowsAt}
use Rattle.mp4_tables.proofs.LeafLists.{payload_first, payload_none, all_first, all_none}
use Rattle.mp4_tables.proofs.LeafRows.{lies_in, first_is_child, runs_there, shape_readable}
use Rattle.mp4_tables.proofs.TableReads.{rows_have}

-- ---- composition offsets
ctts_needed : (payload : List ℕ) → needed ctts payload ≡ 8 + 8 * field payload 4 4
ctts_needed payload = omega arith

offsets_readable : (stbl b : Box) (r : RowsAt) → RowsRead 1 8 8 stbl b r → IsReadable ctts b.payload
offsets_readable stbl b r read = shape_readable ctts 1 8 8 stbl b r refl refl (ctts_needed b.payload) read

offset_runs : (stbl b : Box) (r : RowsAt) → HasTables stbl → IsFirstOf (codes "ctts") (boxes_of stbl) b → RowsRead 1 8 8 stbl b r → runs_at stbl.payload r ≡ map run_of (leaf_rows ctts b.payload)
offset_runs stbl b r h i read =
    runs_there 1 8 stbl b r (lies_in stbl b h (first_is_child (codes "ctts") stbl b i)) read ∙ ap (λ n. map run_of (rows n (4 ∷ 4 ∷ []) (drop 8 b.payload))) read.count

read_twice : (v : ℕ) (rs : List (List ℕ)) → map {B = ℕ × ℤ} (λ (run : ℕ × ℕ). (run.0, composition_offset v run.1)) (map run_of rs) ≡ map {B = ℕ × ℤ} (λ (row : List ℕ). (slice_index row 0, composition_offset v (slice_index row 1))) rs
read_twice v [] = refl
read_twice v (r ∷ rs) = ap (λ xs. (slice_index r 0, composition_offset v (slice_index r 1)) ∷ xs) (read_twice v rs)

version_is : (s : Bool) (v : ℕ) → v ≤ 1 → s ≡ nat_eq v 1 → offset_version s ≡ v
version_is true v h e = let q : v ≡ 1 = grind (arith, nat_tests) in sym q
version_is false v h e = let q : v ≡ 0 = zero_of v h e in sym q
  where
    zero_of : (v : ℕ) → v ≤ 1 → false ≡ nat_eq v 1 → v ≡ 0
    zero_of v h e = grind (arith, nat_tests)

-- a version that is at most 1 and not 1 is 0
pub unsigned_version : (b : Box) → version b.payload ≤ 1 → false ≡ nat_eq (version b.payload) 1 → version b.payload ≡ 0
unsigned_version b h e = sym (version_is false (version b.payload) h e)

offsets_are : (stbl b : Box) (r : RowsAt) (s : Bool) → HasTables stbl → IsFirstOf (codes "ctts") (boxes_of stbl) b → RowsRead 1 8 8 stbl b r → s ≡ nat_eq (version b.payload) 1 → (tables_in stbl).offsets ≡ Some (composition_offsets_at stbl.payload (record { rows = r; is_signed = s }))
offsets_are stbl b r s h i read e =
    ap (option_map offsets_of) (payload_first (codes "ctts") (boxes_of stbl) b i)
    ∙ ap Some (sym (ap (λ runs. map {B = ℕ × ℤ} (λ (run : ℕ × ℕ). (run.0, composition_offset (offset_version s) run.1)) runs) (offset_runs stbl b r h i read)
    ∙ ap (λ v. map {B = ℕ × ℤ} (λ (run : ℕ × ℕ). (run.0, composition_offset v run.1)) (map run_of (leaf_rows ctts b.payload))) (version_is s (version b.payload) read.version e)
    ∙ read_twice (version b.payload) (leaf_rows ctts b.payload)))

total_read : (v : ℕ) (runs : List (ℕ × ℕ)) → total (map {B = ℕ × ℤ} (λ (run : ℕ × ℕ). (run.0, composition_offset v run.1)) runs) ≡ total runs
total_read v [] = refl
total_read v (run ∷ runs) = ap (λ n. run.0 + n) (total_read v runs)

pub total_of : (stbl b : Box) (r : RowsAt) (n m : ℕ) (v : Bool) → HasTables stbl → IsFirstOf (codes "ctts") (boxes_of stbl) b → RowsRead 1 8 8 stbl b r → m ≡ n → (total (runs_at stbl.payload r) == n) ≡ v
    → unwrap_or (option_map (λ (rows : List (ℕ × ℤ)). total rows == m) (tables_in stbl).offsets) true ≡ v
total_of stbl b r n m v h i read k t =
    ap (λ o. unwrap_or (option_map (λ (rows : List (ℕ × ℤ)). total rows == m) o) true) (offsets_are stbl b r (nat_eq (version b.payload) 1) h i read refl)
    ∙ (let d = total_read (offset_version (nat_eq (version b.payload) 1)) (runs_at stbl.payload r) in λ j. d j == k j) ∙ t

-- an offset is too large where not all are below 2^31
large : (rs : List (List ℕ)) → too_large (map (λ (r : List ℕ). Some (slice_index r 1)) rs) ≡ not (all_below (2 ^ 31) (map run_of rs))
large [] = refl
large (r ∷ rs) = turn (slice_index r 1) (too_large (map (λ (r : List ℕ). Some (slice_index r 1)) rs)) (all_below (2 ^ 31) (map run_of rs)) (large rs)
  where
    turn : (n : ℕ) (a b : Bool) → a ≡ not b → (nat_le (2 ^ 31) n || a) ≡ not (nat_lt n (2 ^ 31) && b)
    turn n a b e = ap (λ c. c || a) (opposite n (2 ^ 31)) ∙ flip (nat_lt n (2 ^ 31)) a b e
      where
        opposite : (n m : ℕ) → nat_le m n ≡ not (nat_lt n m)
        opposite n m = grind (arith, nat_tests)

        flip : (c a b : Bool) → a ≡ not b → (not c || a) ≡ not (c && b)
        flip true a b e = e
        flip false a b e = refl

pub offset_is_large : (stbl b : Box) (r : RowsAt) (v : Bool) → HasTables stbl → IsFirstOf (codes "ctts") (boxes_of stbl) b → RowsRead 1 8 8 stbl b r → version b.payload ≡ 0 → all_below (2 ^ 31) (runs_at stbl.payload r) ≡ not v → has_large_offset ctts b.payload ≡ v
offset_is_large stbl b r v h i read z t =
    (let y : (version b.payload == 0) ≡ true = grind (arith, nat_tests) in ap (λ c. c && too_large (map (λ (r : List ℕ). Some (slice_index r 1)) (leaf_rows ctts b.payload))) y)
    ∙ large (leaf_rows ctts b.payload) ∙ ap (λ runs. not (all_below (2 ^ 31) runs)) (sym (offset_runs stbl b r h i read)) ∙ ap not t ∙ twice v
  where
    twice : (v : Bool) → not (not v) ≡ v
    twice true = refl
    twice false = refl

small_rows : (runs : List (ℕ × ℕ)) → all_below (2 ^ 31) runs ≡ true → AllByRecursion (λ (run : ℕ × ℕ). run.1 < 2 ^ 31) runs
small_rows [] e = tt
small_rows (run ∷ runs) e = let p = and_is_true (nat_lt run.1 (2 ^ 31)) (all_below (2 ^ 31) runs) e in (nat_lt_is run.1 (2 ^ 31) p.0, small_rows runs p.1)

-- offsets of version 1, or small ones of version 0
abbrev pub AreRead : Box → Box → RowsAt → Bool → Type 0
AreRead stbl b r true = Unit {0}
AreRead stbl b r false = all_below (2 ^ 31) (runs_at stbl.payload r) ≡ true

small_as : (stbl b : Box) (r : RowsAt) (s : Bool) → AreRead stbl b r s → AreSmall s (runs_at stbl.payload r)
small_as stbl b r true a = tt
small_as stbl b r false a = small_rows (runs_at stbl.payload r) a

pub not_large : (stbl b : Box) (r : RowsAt) (s : Bool) → HasTables stbl → IsFirstOf (codes "ctts") (boxes_of stbl) b → RowsRead 1 8 8 stbl b r → s ≡ nat_eq (version b.payload) 1 → AreRead stbl b r s → has_large_offset ctts b.payload ≡ false
not_large stbl b r true h i read e a =
    let v : version b.payload ≡ 1 = grind (arith, nat_tests) in
    ap (λ n. (n == 0) && too_large (map (λ (r : List ℕ). Some (slice_index r 1)) (leaf_rows ctts b.payload))) v
not_large stbl b r false h i read e a = offset_is_large stbl b r false h i read (sym (version_is false (version b.payload) read.version e)) a

pub offsets_read : (stbl b : Box) (r : RowsAt) (n : ℕ) (s : Bool) → HasTables stbl → IsFirstOf (codes "ctts") (boxes_of stbl) b → RowsRead 1 8 8 stbl b r → s ≡ nat_eq (version b.payload) 1 → (total (runs_at stbl.payload r) == n) ≡ true → AreRead stbl b r s
    → OffsetsRead stbl n (Some (record { rows = r; is_signed = s }))
offsets_read stbl b r n s h i read e t a = record {
  have = (rows_have 1 8 (codes "ctts") stbl b r h i read, small_as stbl b r s a);
  same = sym (offsets_are stbl b r s h i read e);
  sound = all_first (codes "ctts") (IsSound ctts) (boxes_of stbl) b i (holds_few h (codes "ctts") refl)
      (record { readable = offsets_readable stbl b r read; value = refl; inside = refl; offsets = not_large stbl b r s h i read e a });
  count = total_of stbl b r n n true h i read refl t;
}

pub offsets_none : (stbl : Box) (n : ℕ) → count_among (codes "ctts" ∷ []) (boxes_of stbl) ≡ 0 → OffsetsRead stbl n None
offsets_none stbl n e =
    let none : (tables_in stbl).offsets ≡ None = ap (option_map offsets_of) (payload_none (codes "ctts") (boxes_of stbl) e) in
    record { have = tt; same = sym none; sound = all_none (codes "ctts") (IsSound ctts) (boxes_of stbl) e; count = ap (λ o. unwrap_or (option_map (λ (rows : List (ℕ × ℤ)). total rows == n) o) true) none }
