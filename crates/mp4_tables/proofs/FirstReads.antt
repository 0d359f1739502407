-- The first fault of each table, by what was read of it.
use Rattle.std.proofs.Common.{◌≡◌, ℕ, zero, suc, ◌+◌, ◌*◌, ◌≤◌, Bool, true, false, cond, List, [], ◌∷◌, length, drop, Option, Some, None, refl, sym, ap, ◌∙◌, arith, inl, inr}
use Rattle.std.specs.Prelude.{codes, not, nat_le, ◌==◌, unwrap_or, option_map}
use Rattle.mp4_boxes.specs.format.Bytes.{field}
use Rattle.mp4_boxes.specs.format.Box.{Box}
use Rattle.mp4_boxes.specs.format.Children.{count_among, sample_sizes, chunk_offsets, one}
use Rattle.mp4_boxes.specs.format.Layout.{Leaf, IsReadable, IsSound, stsz, stz2, stts, ctts, stco, co64, stsc, stss, sdtp, version, needed, knows_version, knows_flags, has_bad_value, is_outside_data, has_large_offset}
use Rattle.mp4_boxes.specs.format.BoxFaults.{fault_of}
use Rattle.mp4_boxes.specs.format.FirstFault.{Test, first_failed, naming, leaf_tests_with}
use Rattle.mp4_boxes.specs.declared.fault.Fault.{Fault}
use Rattle.mp4_boxes.specs.declared.fault.Kind.TheVariants.{TooManySamples, ShortBox, BadVersion, BadFlags, BadValue, OutsideData, CountMismatch, BadOrder, BadDescriptionIndex, OffsetTooLarge, SampleOutsideFile}
use Rattle.mp4_boxes.proofs.Refusing.{line_has}
use Rattle.mp4_boxes.proofs.Plain.{nat_le_yes}
use Rattle.mp4_tables.specs.format.Repeated.{total}
use Rattle.mp4_tables.specs.format.Tables.{sample_count}
use Rattle.mp4_tables.specs.format.TableRules.{TableRule, duration_counts, offset_counts, chunk_order, chunk_counts, description_indexes, places, sync_order, dependency_room, test, is_sync_order}
use Rattle.mp4_tables.specs.words.Rows.{runs_at, numbers_at}
use Rattle.mp4_tables.specs.words.Leaves.{boxes_of, HasTables, IsFirstOf, RowsRead, tables_in, surroundings_of, SizesKnown, ChunksRead, IsOffsetsLeaf}
use Rattle.mp4_tables.specs.words.RowTests.{version_tests, row_tests, size_tests, duration_tests, offset_tests, chunk_tests, chunk_row_tests, place_tests, sync_tests, dependency_tests}
use Rattle.mp4_tables.specs.declared.leaves.Limits.{Limits}
use Rattle.mp4_tables.specs.declared.places.RowsAt.{RowsAt}
use Rattle.mp4_tables.specs.declared.places.ChunksAt.{ChunksAt}
use Rattle.mp4_tables.proofs.FirstTables.{Found, found_first, found_either, first_tests, rows_stop, rows_go, readable_goes, all_of_first, first_there}
use Rattle.mp4_tables.proofs.TableReads.{durations_same, sync_is, dependencies_is}
use Rattle.mp4_tables.proofs.OffsetReads.{total_of}
use Rattle.mp4_tables.proofs.ChunkReads.{wide_there}

-- ---- `stts`
module _ (l : Limits) (stbl b : Box) (i : IsFirstOf (codes "stts") (boxes_of stbl) b) where
  stts_needed : needed stts b.payload ≡ 8 + 8 * field b.payload 4 4
  stts_needed = omega arith

  pub durations_stop : (f : Fault) → first_failed (naming b (row_tests 0 8 b.payload)) ≡ Some f → first_failed (duration_tests l stbl) ≡ Some f
  durations_stop f e = rows_stop (codes "stts" ∷ []) stts (duration_counts ∷ []) 0 8 l stbl b (found_first (codes "stts") stts stbl b i refl) refl refl stts_needed f e

  pub durations_judged : (r : RowsAt) (n : ℕ) (v : Bool) → HasTables stbl → RowsRead 0 8 8 stbl b r → SizesKnown stbl n → (total (runs_at stbl.payload r) == n) ≡ v → first_failed (naming b (row_tests 0 8 b.payload)) ≡ None
      → first_failed (duration_tests l stbl) ≡ cond v None (Some (fault_of CountMismatch b))
  durations_judged r n v h read k t e =
      let test : (total (tables_in stbl).durations == length (tables_in stbl).sizes) ≡ v = (let c = k.count in let d = sym (durations_same stbl b r h i read) in λ j. total (d j) == c j) ∙ t in
      rows_go (codes "stts" ∷ []) stts (duration_counts ∷ []) 0 8 l stbl b (found_first (codes "stts") stts stbl b i refl) refl refl stts_needed (cond v None (Some (fault_of CountMismatch b))) e (rw test refl)

-- ---- `ctts`
module _ (l : Limits) (stbl b : Box) (i : IsFirstOf (codes "ctts") (boxes_of stbl) b) where
  ctts_needed : needed ctts b.payload ≡ 8 + 8 * field b.payload 4 4
  ctts_needed = omega arith

  pub offsets_stop : (f : Fault) → first_failed (naming b (row_tests 1 8 b.payload)) ≡ Some f → first_failed (offset_tests l stbl) ≡ Some f
  offsets_stop f e = rows_stop (codes "ctts" ∷ []) ctts (offset_counts ∷ []) 1 8 l stbl b (found_first (codes "ctts") ctts stbl b i refl) refl refl ctts_needed f e

  pub offsets_judged : (r : RowsAt) (n : ℕ) (v w : Bool) → HasTables stbl → RowsRead 1 8 8 stbl b r → SizesKnown stbl n → (total (runs_at stbl.payload r) == n) ≡ v → has_large_offset ctts b.payload ≡ w → first_failed (naming b (row_tests 1 8 b.payload)) ≡ None
      → first_failed (offset_tests l stbl) ≡ cond v (cond (not w) None (Some (fault_of OffsetTooLarge b))) (Some (fault_of CountMismatch b))
  offsets_judged r n v w h read k t large e =
      let test = total_of stbl b r n (length (tables_in stbl).sizes) v h i read k.count t in
      rows_go (codes "ctts" ∷ []) ctts (offset_counts ∷ []) 1 8 l stbl b (found_first (codes "ctts") ctts stbl b i refl) refl refl ctts_needed (cond v (cond (not w) None (Some (fault_of OffsetTooLarge b))) (Some (fault_of CountMismatch b))) e (rw (test, large) refl)

-- ---- `stco` or `co64`
one_of_both : (stbl : Box) → HasTables stbl → count_among chunk_offsets (boxes_of stbl) ≡ 1
one_of_both stbl h = line_has h (codes "stco") (record { kinds = chunk_offsets; quantity = one }) refl

pub found_narrow : (stbl b : Box) → HasTables stbl → IsFirstOf (codes "stco") (boxes_of stbl) b → Found chunk_offsets stbl b stco
found_narrow stbl b h i = found_either chunk_offsets (codes "stco") stco stbl b i refl (one_of_both stbl h) refl

pub found_wide : (stbl b : Box) → HasTables stbl → IsFirstOf (codes "co64") (boxes_of stbl) b → Found chunk_offsets stbl b co64
found_wide stbl b h i = found_either chunk_offsets (codes "co64") co64 stbl b i refl (one_of_both stbl h) refl

module _ (l : Limits) (stbl b : Box) (h : HasTables stbl) where
  stco_needed : needed stco b.payload ≡ 8 + 4 * field b.payload 4 4
  stco_needed = omega arith

  co64_needed : needed co64 b.payload ≡ 8 + 8 * field b.payload 4 4
  co64_needed = omega arith

  pub narrow_stop : (f : Fault) → IsFirstOf (codes "stco") (boxes_of stbl) b → first_failed (naming b (row_tests 0 4 b.payload)) ≡ Some f → first_failed (chunk_tests l stbl) ≡ Some f
  narrow_stop f i e = rows_stop chunk_offsets stco [] 0 4 l stbl b (found_narrow stbl b h i) refl refl stco_needed f e

  pub wide_stop : (f : Fault) → IsFirstOf (codes "co64") (boxes_of stbl) b → first_failed (naming b (row_tests 0 8 b.payload)) ≡ Some f → first_failed (chunk_tests l stbl) ≡ Some f
  wide_stop f i e = rows_stop chunk_offsets co64 [] 0 8 l stbl b (found_wide stbl b h i) refl refl co64_needed f e

  pub narrow_go : IsFirstOf (codes "stco") (boxes_of stbl) b → first_failed (naming b (row_tests 0 4 b.payload)) ≡ None → first_failed (chunk_tests l stbl) ≡ None
  narrow_go i e = rows_go chunk_offsets stco [] 0 4 l stbl b (found_narrow stbl b h i) refl refl stco_needed None e refl

  pub wide_go : IsFirstOf (codes "co64") (boxes_of stbl) b → first_failed (naming b (row_tests 0 8 b.payload)) ≡ None → first_failed (chunk_tests l stbl) ≡ None
  wide_go i e = rows_go chunk_offsets co64 [] 0 8 l stbl b (found_wide stbl b h i) refl refl co64_needed None e refl

-- ---- `stsc`
abbrev pub chunk_rows_answer : Bool → Bool → Bool → Box → Option Fault
chunk_rows_answer o c d b = cond o (cond c (cond d None (Some (fault_of BadDescriptionIndex b))) (Some (fault_of CountMismatch b))) (Some (fault_of BadOrder b))

module _ (l : Limits) (stbl b : Box) (i : IsFirstOf (codes "stsc") (boxes_of stbl) b) where
  stsc_needed : needed stsc b.payload ≡ 8 + 12 * field b.payload 4 4
  stsc_needed = omega arith

  abbrev chunk_rules : List TableRule
  chunk_rules = chunk_order ∷ chunk_counts ∷ description_indexes ∷ []

  pub chunk_rows_stop : (f : Fault) → first_failed (naming b (row_tests 0 12 b.payload)) ≡ Some f → first_failed (chunk_row_tests l stbl) ≡ Some f
  chunk_rows_stop f e = rows_stop (codes "stsc" ∷ []) stsc chunk_rules 0 12 l stbl b (found_first (codes "stsc") stsc stbl b i refl) refl refl stsc_needed f e

  pub chunk_rows_judged : (o c d : Bool) → test chunk_order (surroundings_of l) (tables_in stbl) ≡ o → test chunk_counts (surroundings_of l) (tables_in stbl) ≡ c → test description_indexes (surroundings_of l) (tables_in stbl) ≡ d
      → first_failed (naming b (row_tests 0 12 b.payload)) ≡ None → first_failed (chunk_row_tests l stbl) ≡ chunk_rows_answer o c d b
  chunk_rows_judged o c d p q r e = rows_go (codes "stsc" ∷ []) stsc chunk_rules 0 12 l stbl b (found_first (codes "stsc") stsc stbl b i refl) refl refl stsc_needed (chunk_rows_answer o c d b) e (rw (p, q, r) refl)

-- ---- `stss`
module _ (l : Limits) (stbl b : Box) (i : IsFirstOf (codes "stss") (boxes_of stbl) b) where
  stss_needed : needed stss b.payload ≡ 8 + 4 * field b.payload 4 4
  stss_needed = omega arith

  pub sync_stop : (f : Fault) → first_failed (naming b (row_tests 0 4 b.payload)) ≡ Some f → first_failed (sync_tests l stbl) ≡ Some f
  sync_stop f e = rows_stop (codes "stss" ∷ []) stss (sync_order ∷ []) 0 4 l stbl b (found_first (codes "stss") stss stbl b i refl) refl refl stss_needed f e

  pub sync_judged : (r : RowsAt) (n : ℕ) (v : Bool) → HasTables stbl → RowsRead 0 8 4 stbl b r → SizesKnown stbl n → is_sync_order n (numbers_at 4 stbl.payload r) ≡ v → first_failed (naming b (row_tests 0 4 b.payload)) ≡ None
      → first_failed (sync_tests l stbl) ≡ cond v None (Some (fault_of BadOrder b))
  sync_judged r n v h read k t e =
      let test : unwrap_or (option_map (is_sync_order (length (tables_in stbl).sizes)) (tables_in stbl).sync) true ≡ v = (let c = k.count in let d = sync_is stbl b r h i read in λ j. unwrap_or (option_map (is_sync_order (c j)) (d j)) true) ∙ t in
      rows_go (codes "stss" ∷ []) stss (sync_order ∷ []) 0 4 l stbl b (found_first (codes "stss") stss stbl b i refl) refl refl stss_needed (cond v None (Some (fault_of BadOrder b))) e (rw test refl)

-- ---- `sdtp`
stops : (a v : Bool) (x y f : Fault) (more : List (Test Fault)) → first_failed ((a, x) ∷ (v, y) ∷ []) ≡ Some f → first_failed ((a, x) ∷ (v, y) ∷ more) ≡ Some f
stops false v x y f more e = e
stops true false x y f more e = e
stops true true x y f more e = absurd cc

goes : (a v : Bool) (x y : Fault) (more : List (Test Fault)) → first_failed ((a, x) ∷ (v, y) ∷ []) ≡ None → first_failed ((a, x) ∷ (v, y) ∷ more) ≡ first_failed more
goes false v x y more e = absurd cc
goes true false x y more e = absurd cc
goes true true x y more e = refl

module _ (l : Limits) (stbl b : Box) (i : IsFirstOf (codes "sdtp") (boxes_of stbl) b) where
  abbrev later : List (Test Fault)
  later = (true, fault_of BadFlags b) ∷ (nat_le (needed sdtp b.payload) (length b.payload), fault_of ShortBox b) ∷ (test dependency_room (surroundings_of l) (tables_in stbl), fault_of ShortBox b) ∷ (true, fault_of BadValue b) ∷ (true, fault_of OutsideData b) ∷ (true, fault_of OffsetTooLarge b) ∷ []

  own_is : first_failed (dependency_tests l stbl) ≡ first_failed ((nat_le 4 (length b.payload), fault_of ShortBox b) ∷ (nat_le (version b.payload) 0, fault_of BadVersion b) ∷ later)
  own_is = ap first_failed (first_tests (codes "sdtp" ∷ []) sdtp (dependency_room ∷ []) l stbl b (found_first (codes "sdtp") sdtp stbl b i refl))

  pub dependencies_stop : (f : Fault) → first_failed (naming b (version_tests 0 b.payload)) ≡ Some f → first_failed (dependency_tests l stbl) ≡ Some f
  dependencies_stop f e = own_is ∙ stops (nat_le 4 (length b.payload)) (nat_le (version b.payload) 0) (fault_of ShortBox b) (fault_of BadVersion b) f later e

  pub dependencies_judged : (n : ℕ) (v : Bool) → 4 ≤ length b.payload → SizesKnown stbl n → nat_le n (length (drop 4 b.payload)) ≡ v → first_failed (naming b (version_tests 0 b.payload)) ≡ None
      → first_failed (dependency_tests l stbl) ≡ cond v None (Some (fault_of ShortBox b))
  dependencies_judged n v long k t e =
      let need : needed sdtp b.payload ≡ 4 = omega arith in
      let room : nat_le (needed sdtp b.payload) (length b.payload) ≡ true = nat_le_yes (needed sdtp b.payload) (length b.payload) (omega (arith, need, long)) in
      let test : unwrap_or (option_map (λ (bytes : List ℕ). nat_le (length (tables_in stbl).sizes) (length bytes)) (tables_in stbl).dependencies) true
      ≡ v = (let c = k.count in let d = dependencies_is stbl b i in λ j. unwrap_or (option_map (λ (bytes : List ℕ). nat_le (c j) (length bytes)) (d j)) true) ∙ t in
      own_is ∙ goes (nat_le 4 (length b.payload)) (nat_le (version b.payload) 0) (fault_of ShortBox b) (fault_of BadVersion b) later e ∙ rw (room, test) refl

-- ---- places
module _ (l : Limits) (stbl : Box) (at : ChunksAt) (h : HasTables stbl) (k : ChunksRead stbl at) (v : Bool) (t : test places (surroundings_of l) (tables_in stbl) ≡ v) where
  narrow_places : (b : Box) → IsFirstOf (codes "stco") (boxes_of stbl) b → first_failed (place_tests l stbl) ≡ cond v None (Some (fault_of SampleOutsideFile b))
  narrow_places b i =
      let read : IsReadable stco b.payload = (all_of_first (codes "stco") (IsSound stco) (boxes_of stbl) b i k.narrow).readable in
      let room = read.room in
      readable_goes chunk_offsets stco (places ∷ []) l stbl b (cond v None (Some (fault_of SampleOutsideFile b))) (found_narrow stbl b h i) (omega (arith, room)) read (rw t refl)

  wide_places : (b : Box) → IsFirstOf (codes "co64") (boxes_of stbl) b → first_failed (place_tests l stbl) ≡ cond v None (Some (fault_of SampleOutsideFile b))
  wide_places b i =
      let read : IsReadable co64 b.payload = (all_of_first (codes "co64") (IsSound co64) (boxes_of stbl) b i k.wide).readable in
      let room = read.room in
      readable_goes chunk_offsets co64 (places ∷ []) l stbl b (cond v None (Some (fault_of SampleOutsideFile b))) (found_wide stbl b h i) (omega (arith, room)) read (rw t refl)

  pub places_judged : (b : Box) → IsOffsetsLeaf stbl b → first_failed (place_tests l stbl) ≡ cond v None (Some (fault_of SampleOutsideFile b))
  places_judged b (inl i) = narrow_places b i
  places_judged b (inr i) = wide_places b i

  -- one of both boxes stands there
  offsets_there : (n : ℕ) → count_among (codes "stco" ∷ []) (boxes_of stbl) ≡ n → (b : Box) × IsOffsetsLeaf stbl b
  offsets_there zero e = let f = first_there (codes "co64") (boxes_of stbl) (wide_there stbl h e) in (f.0, inr f.1)
  offsets_there (suc n) e = let f = first_there (codes "stco") (boxes_of stbl) (omega (arith, e)) in (f.0, inl f.1)

  pub places_any : (b : Box) × (first_failed (place_tests l stbl) ≡ cond v None (Some (fault_of SampleOutsideFile b)))
  places_any = let f = offsets_there (count_among (codes "stco" ∷ []) (boxes_of stbl)) refl in (f.0, places_judged f.0 f.1)

-- ---- `stsz` or `stz2`
abbrev pub sizes_answer : Bool → Bool → Bool → Box → Option Fault
sizes_answer r m w b = cond r (cond m (cond (not w) None (Some (fault_of BadValue b))) (Some (fault_of TooManySamples b))) (Some (fault_of ShortBox b))

one_of_sizes : (stbl : Box) → HasTables stbl → count_among sample_sizes (boxes_of stbl) ≡ 1
one_of_sizes stbl h = line_has h (codes "stsz") (record { kinds = sample_sizes; quantity = one }) refl

pub found_words : (stbl b : Box) → HasTables stbl → IsFirstOf (codes "stsz") (boxes_of stbl) b → Found sample_sizes stbl b stsz
found_words stbl b h i = found_either sample_sizes (codes "stsz") stsz stbl b i refl (one_of_sizes stbl h) refl

pub found_compact : (stbl b : Box) → HasTables stbl → IsFirstOf (codes "stz2") (boxes_of stbl) b → Found sample_sizes stbl b stz2
found_compact stbl b h i = found_either sample_sizes (codes "stz2") stz2 stbl b i refl (one_of_sizes stbl h) refl

module _ (leaf : Leaf) (l : Limits) (stbl b : Box) (f : Found sample_sizes stbl b leaf) (v : knows_version leaf b.payload ≡ nat_le (version b.payload) 0) (k : knows_flags leaf b.payload ≡ true) (o : is_outside_data leaf b.payload ≡ false) (g : has_large_offset leaf b.payload ≡ false) where
  abbrev at_most : Bool
  at_most = nat_le (sample_count b.payload) l.room

  sizes_are : first_failed (size_tests l stbl) ≡ first_failed (naming b (leaf_tests_with leaf ((at_most, TooManySamples) ∷ []) b.payload))
  sizes_are = let found = f.found in let read = f.read in rw (found, read) refl

  abbrev sizes_later : List (Test Fault)
  sizes_later = (knows_flags leaf b.payload, fault_of BadFlags b) ∷ (nat_le (needed leaf b.payload) (length b.payload), fault_of ShortBox b) ∷ (at_most, fault_of TooManySamples b) ∷ (not (has_bad_value leaf b.payload), fault_of BadValue b)
      ∷ (not (is_outside_data leaf b.payload), fault_of OutsideData b) ∷ (not (has_large_offset leaf b.payload), fault_of OffsetTooLarge b) ∷ []

  pub sizes_stop : (e : Fault) → first_failed (naming b (version_tests 0 b.payload)) ≡ Some e → first_failed (size_tests l stbl) ≡ Some e
  sizes_stop e t = sizes_are ∙ rw v (stops (nat_le 4 (length b.payload)) (nat_le (version b.payload) 0) (fault_of ShortBox b) (fault_of BadVersion b) e sizes_later t)

  pub sizes_judged : (r m w : Bool) → nat_le (needed leaf b.payload) (length b.payload) ≡ r → at_most ≡ m → has_bad_value leaf b.payload ≡ w → first_failed (naming b (version_tests 0 b.payload)) ≡ None → first_failed (size_tests l stbl) ≡ sizes_answer r m w b
  sizes_judged r m w p q s t = sizes_are ∙ rw v (goes (nat_le 4 (length b.payload)) (nat_le (version b.payload) 0) (fault_of ShortBox b) (fault_of BadVersion b) sizes_later t ∙ rw (k, o, g, p, q, s) refl)
