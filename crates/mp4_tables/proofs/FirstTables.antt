-- The first fault of one table: its shape, then its rules, then its values.
use Rattle.std.proofs.Common.{◌≡◌, ℕ, ◌+◌, ◌*◌, ◌<◌, ◌≤◌, Bool, true, false, List, [], ◌∷◌, ◌++◌, length, Option, Some, None, refl, ap, subst, ◌∙◌, arith}
use Rattle.std.specs.Prelude.{bytes_eq, nat_le, find, not}
use Rattle.mp4_boxes.specs.format.Bytes.{field}
use Rattle.mp4_boxes.specs.format.Box.{Box}
use Rattle.mp4_boxes.specs.format.BoxFaults.{fault_of}
use Rattle.mp4_boxes.specs.format.Children.{count_among, is_among}
use Rattle.mp4_boxes.specs.format.Layout.{Leaf, IsReadable, version, needed, knows_version, knows_flags, has_bad_value, is_outside_data, has_large_offset}
use Rattle.mp4_boxes.specs.format.Places.{leaf_of, ruled}
use Rattle.mp4_boxes.specs.declared.rule.Rule.TheVariants.{SampleTable}
use Rattle.mp4_boxes.specs.declared.fault.Fault.{Fault}
use Rattle.mp4_boxes.specs.declared.fault.Kind.{Kind}
use Rattle.mp4_boxes.specs.declared.fault.Kind.TheVariants.{ShortBox, BadVersion, BadFlags, BadValue, OutsideData, OffsetTooLarge}
use Rattle.mp4_boxes.proofs.Sound.{same_kind}
use Rattle.mp4_boxes.specs.format.FirstFault.{Test, first_failed, naming, leaf_tests_with}
use Rattle.mp4_tables.specs.format.TableRules.{TableRule}
use Rattle.mp4_tables.specs.words.Leaves.{boxes_of, tables_in, surroundings_of, AllOf, IsFirstOf}
use Rattle.mp4_tables.specs.declared.leaves.Limits.{Limits}
use Rattle.mp4_tables.specs.format.FirstFault.{table_rule_tests}
use Rattle.mp4_tables.specs.words.RowTests.{row_tests, tests_of}
use Rattle.mp4_boxes.proofs.Among.{count-append}
use Rattle.mp4_boxes.proofs.Plain.{nat_le_yes}

-- the first that has one of these types
find_among : (kinds : List (List ℕ)) (before after : List Box) (b : Box) → is_among kinds b.kind ≡ true → count_among kinds before ≡ 0 → find (λ (x : Box). is_among kinds x.kind) (before ++ b ∷ after) ≡ Some b
find_among kinds [] after b e n = rw e refl
find_among kinds (x ∷ before) after b e n = by (is_among kinds x.kind) refl (find_among kinds before after b e)
  where
    by : (v : Bool) → is_among kinds x.kind ≡ v → (count_among kinds before ≡ 0 → find (λ (y : Box). is_among kinds y.kind) (before ++ b ∷ after) ≡ Some b) → find (λ (x : Box). is_among kinds x.kind) (x ∷ before ++ b ∷ after) ≡ Some b
    by true f on = let m : 1 + count_among kinds before ≡ 0 = rw f at n in absurd (omega (arith, m))
    by false f on = let m : 0 + count_among kinds before ≡ 0 = rw f at n in rw f (on (omega (arith, m)))

-- none has
find_none : (kinds : List (List ℕ)) (boxes : List Box) → count_among kinds boxes ≡ 0 → find (λ (x : Box). is_among kinds x.kind) boxes ≡ None
find_none kinds [] n = refl
find_none kinds (x ∷ boxes) n = by (is_among kinds x.kind) refl (find_none kinds boxes)
  where
    by : (v : Bool) → is_among kinds x.kind ≡ v → (count_among kinds boxes ≡ 0 → find (λ (y : Box). is_among kinds y.kind) boxes ≡ None) → find (λ (x : Box). is_among kinds x.kind) (x ∷ boxes) ≡ None
    by true f on = let m : 1 + count_among kinds boxes ≡ 0 = rw f at n in absurd (omega (arith, m))
    by false f on = let m : 0 + count_among kinds boxes ≡ 0 = rw f at n in rw f (on (omega (arith, m)))

-- the first box of these types, which is read as this leaf
pub record Found (kinds : List (List ℕ)) (stbl b : Box) (leaf : Leaf) : Type 0 where
  pub found : find (λ (x : Box). is_among kinds x.kind) (boxes_of stbl) ≡ Some b
  pub read : leaf_of (ruled SampleTable) b.kind ≡ Some leaf

pub found_first : (kind : List ℕ) (leaf : Leaf) (stbl b : Box) → IsFirstOf kind (boxes_of stbl) b → leaf_of (ruled SampleTable) kind ≡ Some leaf → Found (kind ∷ []) stbl b leaf
found_first kind leaf stbl b i l = record {
  found = ap (find (λ (x : Box). is_among (kind ∷ []) x.kind)) i.is ∙ find_among (kind ∷ []) i.before i.after b (rw i.same refl) i.none;
  read = ap (leaf_of (ruled SampleTable)) (same_kind kind b.kind i.same) ∙ l;
}

-- the same of two types, of which one box stands there
pub found_either : (kinds : List (List ℕ)) (kind : List ℕ) (leaf : Leaf) (stbl b : Box) (i : IsFirstOf kind (boxes_of stbl) b) → is_among kinds kind ≡ true → count_among kinds (boxes_of stbl) ≡ 1 → leaf_of (ruled SampleTable) kind ≡ Some leaf → Found kinds stbl b leaf
found_either kinds kind leaf stbl b i among one l =
    let same = same_kind kind b.kind i.same in
    let is : is_among kinds b.kind ≡ true = ap (is_among kinds) same ∙ among in
    let here : count_among kinds (b ∷ i.after) ≡ 1 + count_among kinds i.after = rw is refl in
    let none : count_among kinds i.before ≡ 0 = omega (arith, one, ap (count_among kinds) i.is, count-append kinds i.before (b ∷ i.after), here) in
    record { found = ap (find (λ (x : Box). is_among kinds x.kind)) i.is ∙ find_among kinds i.before i.after b is none; read = ap (leaf_of (ruled SampleTable)) same ∙ l }

-- the tests of the first of these types are those of the leaf
pub first_tests : (kinds : List (List ℕ)) (leaf : Leaf) (rules : List TableRule) (l : Limits) (stbl b : Box) → Found kinds stbl b leaf → tests_of kinds rules l stbl ≡ naming b (leaf_tests_with leaf (table_rule_tests (surroundings_of l) (tables_in stbl) rules) b.payload)
first_tests kinds leaf rules l stbl b f =
    let found = f.found in
    let read = f.read in
    rw (found, read) refl

-- without such a box nothing is tested
pub none_tested : (kinds : List (List ℕ)) (rules : List TableRule) (l : Limits) (stbl : Box) → count_among kinds (boxes_of stbl) ≡ 0 → first_failed (tests_of kinds rules l stbl) ≡ None
none_tested kinds rules l stbl n = let none = find_none kinds (boxes_of stbl) n in rw none refl

stops : (a v r : Bool) (x y w z f : Fault) (more : List (Test Fault)) → first_failed ((a, x) ∷ (v, y) ∷ (r, z) ∷ []) ≡ Some f → first_failed ((a, x) ∷ (v, y) ∷ (true, w) ∷ (r, z) ∷ more) ≡ Some f
stops false v r x y w z f more e = e
stops true false r x y w z f more e = e
stops true true false x y w z f more e = e
stops true true true x y w z f more e = absurd cc

goes : (a v r : Bool) (x y w z : Fault) (more : List (Test Fault)) → first_failed ((a, x) ∷ (v, y) ∷ (r, z) ∷ []) ≡ None → first_failed ((a, x) ∷ (v, y) ∷ (true, w) ∷ (r, z) ∷ more) ≡ first_failed more
goes false v r x y w z more e = absurd cc
goes true false r x y w z more e = absurd cc
goes true true false x y w z more e = absurd cc
goes true true true x y w z more e = refl

abbrev pub behind : Leaf → List (Test Kind) → Box → List (Test Fault)
behind leaf rules b = naming b (rules ++ (not (has_bad_value leaf b.payload), BadValue) ∷ (not (is_outside_data leaf b.payload), OutsideData) ∷ (not (has_large_offset leaf b.payload), OffsetTooLarge) ∷ [])

abbrev leaf_by : Bool → Bool → ℕ → Leaf → List (Test Kind) → Box → Option Fault
leaf_by v f n leaf rules b = first_failed ((nat_le 4 (length b.payload), fault_of ShortBox b) ∷ (v, fault_of BadVersion b) ∷ (f, fault_of BadFlags b) ∷ (nat_le n (length b.payload), fault_of ShortBox b) ∷ behind leaf rules b)

-- a fault of its shape is its first
pub shape_stops : (leaf : Leaf) (rules : List (Test Kind)) (last width : ℕ) (b : Box) (f : Fault) → knows_version leaf b.payload ≡ nat_le (version b.payload) last → knows_flags leaf b.payload ≡ true → needed leaf b.payload ≡ 8 + width * field b.payload 4 4
    → first_failed (naming b (row_tests last width b.payload)) ≡ Some f → first_failed (naming b (leaf_tests_with leaf rules b.payload)) ≡ Some f
shape_stops leaf rules last width b f v k n e = (λ i. leaf_by (v i) (k i) (n i) leaf rules b)
    ∙ stops (nat_le 4 (length b.payload)) (nat_le (version b.payload) last) (nat_le (8 + width * field b.payload 4 4) (length b.payload)) (fault_of ShortBox b) (fault_of BadVersion b) (fault_of BadFlags b) (fault_of ShortBox b) f (behind leaf rules b) e

-- with its shape, its rules and values are left
pub shape_goes : (leaf : Leaf) (rules : List (Test Kind)) (last width : ℕ) (b : Box) → knows_version leaf b.payload ≡ nat_le (version b.payload) last → knows_flags leaf b.payload ≡ true → needed leaf b.payload ≡ 8 + width * field b.payload 4 4
    → first_failed (naming b (row_tests last width b.payload)) ≡ None → first_failed (naming b (leaf_tests_with leaf rules b.payload)) ≡ first_failed (behind leaf rules b)
shape_goes leaf rules last width b v k n e = (λ i. leaf_by (v i) (k i) (n i) leaf rules b)
    ∙ goes (nat_le 4 (length b.payload)) (nat_le (version b.payload) last) (nat_le (8 + width * field b.payload 4 4) (length b.payload)) (fault_of ShortBox b) (fault_of BadVersion b) (fault_of BadFlags b) (fault_of ShortBox b) (behind leaf rules b) e

-- ---- tables by their rows

module _ (kinds : List (List ℕ)) (leaf : Leaf) (rules : List TableRule) (last width : ℕ) (l : Limits) (stbl b : Box) (found : Found kinds stbl b leaf) (v : knows_version leaf b.payload ≡ nat_le (version b.payload) last) (k : knows_flags leaf b.payload ≡ true) (n : needed leaf b.payload
    ≡ 8 + width * field b.payload 4 4) where
  pub rows_stop : (f : Fault) → first_failed (naming b (row_tests last width b.payload)) ≡ Some f → first_failed (tests_of kinds rules l stbl) ≡ Some f
  rows_stop f e = ap first_failed (first_tests kinds leaf rules l stbl b found) ∙ shape_stops leaf (table_rule_tests (surroundings_of l) (tables_in stbl) rules) last width b f v k n e

  pub rows_go : (o : Option Fault) → first_failed (naming b (row_tests last width b.payload)) ≡ None → first_failed (behind leaf (table_rule_tests (surroundings_of l) (tables_in stbl) rules) b) ≡ o → first_failed (tests_of kinds rules l stbl) ≡ o
  rows_go o e r = ap first_failed (first_tests kinds leaf rules l stbl b found) ∙ shape_goes leaf (table_rule_tests (surroundings_of l) (tables_in stbl) rules) last width b v k n e ∙ r

-- ---- a table that can be read

goes_four : (a v k n : Bool) (x y z w : Fault) (more : List (Test Fault)) → a ≡ true → v ≡ true → k ≡ true → n ≡ true → first_failed ((a, x) ∷ (v, y) ∷ (k, z) ∷ (n, w) ∷ more) ≡ first_failed more
goes_four a v k n x y z w more p q r s = rw (p, q, r, s) refl

pub readable_goes : (kinds : List (List ℕ)) (leaf : Leaf) (rules : List TableRule) (l : Limits) (stbl b : Box) (o : Option Fault) → Found kinds stbl b leaf → 4 ≤ length b.payload → IsReadable leaf b.payload
    → first_failed (behind leaf (table_rule_tests (surroundings_of l) (tables_in stbl) rules) b) ≡ o → first_failed (tests_of kinds rules l stbl) ≡ o
readable_goes kinds leaf rules l stbl b o found long read e =
    ap first_failed (first_tests kinds leaf rules l stbl b found)
    ∙ goes_four (nat_le 4 (length b.payload)) (knows_version leaf b.payload) (knows_flags leaf b.payload) (nat_le (needed leaf b.payload) (length b.payload)) (fault_of ShortBox b) (fault_of BadVersion b) (fault_of BadFlags b) (fault_of ShortBox b)
    (behind leaf (table_rule_tests (surroundings_of l) (tables_in stbl) rules) b) (nat_le_yes 4 (length b.payload) long) read.version read.flags (nat_le_yes (needed leaf b.payload) (length b.payload) read.room)
    ∙ e

-- what holds of all holds of one
pub all_here : (kind : List ℕ) (P : List ℕ → Type 0) (before after : List Box) (b : Box) → AllOf kind P (before ++ b ∷ after) → bytes_eq kind b.kind ≡ true → P b.payload
all_here kind P [] after b h e = h.0 e
all_here kind P (c ∷ before) after b h e = all_here kind P before after b h.1 e

pub all_of_first : (kind : List ℕ) (P : List ℕ → Type 0) (boxes : List Box) (b : Box) → IsFirstOf kind boxes b → AllOf kind P boxes → P b.payload
all_of_first kind P boxes b i h = all_here kind P i.before i.after b (subst (AllOf kind P) i.is h) i.same

-- a type that is counted has a first box
pub first_there : (kind : List ℕ) (boxes : List Box) → 0 < count_among (kind ∷ []) boxes → (b : Box) × IsFirstOf kind boxes b
first_there kind [] n = absurd (omega (arith, n))
first_there kind (x ∷ boxes) n = by (bytes_eq kind x.kind) refl (first_there kind boxes)
  where
    by : (v : Bool) → bytes_eq kind x.kind ≡ v → (0 < count_among (kind ∷ []) boxes → (b : Box) × IsFirstOf kind boxes b) → (b : Box) × IsFirstOf kind (x ∷ boxes) b
    by true e on = (x, record { before = []; after = boxes; is = refl; same = e; none = refl })
    by false e on =
        let m : 0 < 0 + count_among (kind ∷ []) boxes = rw e at n in
        let f = on (omega (arith, m)) in
        let first : count_among (kind ∷ []) (x ∷ f.1.before) ≡ 0 + count_among (kind ∷ []) f.1.before = rw e refl in
        let rest = f.1.none in
        (f.0, record { before = x ∷ f.1.before; after = f.1.after; is = ap (λ (bs : List Box). x ∷ bs) f.1.is; same = f.1.same; none = omega (arith, first, rest) })
