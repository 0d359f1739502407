-- The first fault of the sample groups of a track, child by child.
use Rattle.std.proofs.Common.{◌≡◌, ℕ, suc, ◌≤◌, Bool, true, false, cond, List, [], ◌∷◌, ◌++◌, length, take, map, Option, Some, None, refl, sym, ap, ◌∙◌, arith}
use Rattle.std.specs.Prelude.{codes, bytes_eq, nat_le, not, ◌==◌, option_map}
use Rattle.std.specs.List.{list_any, slice_get}
use Rattle.mp4_boxes.specs.format.Bytes.{width_of}
use Rattle.mp4_boxes.specs.format.Box.{Box}
use Rattle.mp4_boxes.specs.format.Layout.{sbgp, sgpd, version, fields, IsReadable, needed}
use Rattle.mp4_boxes.specs.format.BoxFaults.{fault_of}
use Rattle.mp4_boxes.specs.format.FirstFault.{Test, first_failed, naming, leaf_tests, leaf_tests_with}
use Rattle.mp4_boxes.specs.declared.fault.Fault.{Fault}
use Rattle.mp4_boxes.specs.declared.fault.Kind.{Kind}
use Rattle.mp4_boxes.specs.declared.fault.Kind.TheVariants.{ShortBox, BadVersion, BadFlags, DuplicateBox, BadValue, CountMismatch, OutsideData, OffsetTooLarge}
use Rattle.mp4_boxes.proofs.Plain.{nat_le_no, nat_le_yes}
use Rattle.mp4_tables.specs.format.Groups.{GroupKey, Grouping, GroupRule, same_key, one_of_key, few_keys, index_range, group_counts, grouping_of, keeps, group_test, group_kind}
use Rattle.mp4_tables.specs.format.FirstFault.{group_rules, group_tests, groups_tests}
use Rattle.mp4_tables.specs.words.Leaves.{GroupRead, GroupsSo}
use Rattle.mp4_tables.specs.words.RowTests.{kept_tests, child_tests}
use Rattle.std.proofs.lemmas.Bool.Decides.{nat_tests}
use Rattle.mp4_tables.specs.format.Repeated.{total}
use Rattle.mp4_tables.specs.words.Rows.{runs_at}
use Rattle.mp4_tables.specs.words.Keys.{keys_seen}
use Rattle.mp4_tables.specs.words.TablesComing.{all_below}
use Rattle.mp4_tables.specs.declared.places.RowsAt.{RowsAt}
use Rattle.mp4_tables.specs.declared.places.GroupsAt.{GroupsAt}
use Rattle.mp4_tables.proofs.GroupsKept.{test_at, keeps_key, keeps_few, keeps_range}

-- ---- one `sbgp`

-- the first of two lists of tests
abbrev pub or_then : {F : Type 0} → Option F → Option F → Option F
or_then None o = o
or_then (Some f) o = Some f

pub joined : (xs ys : List (Test Fault)) → first_failed (xs ++ ys) ≡ or_then (first_failed xs) (first_failed ys)
joined [] ys = refl
joined (t ∷ xs) ys = by t.0 (joined xs ys)
  where
    by : (v : Bool) → first_failed (xs ++ ys) ≡ or_then (first_failed xs) (first_failed ys) → cond v (first_failed (xs ++ ys)) (Some t.1) ≡ or_then (cond v (first_failed xs) (Some t.1)) (first_failed ys)
    by true more = more
    by false more = refl

-- a test that names a box names it by its kind
pub named_first : (b : Box) (tests : List (Test Kind)) → first_failed (naming b tests) ≡ option_map (λ (k : Kind). fault_of k b) (first_failed tests)
named_first b [] = refl
named_first b (t ∷ tests) = by t.0 (named_first b tests)
  where
    by : (v : Bool) → first_failed (naming b tests) ≡ option_map (λ (k : Kind). fault_of k b) (first_failed tests) → cond v (first_failed (naming b tests)) (Some (fault_of t.1 b)) ≡ option_map (λ (k : Kind). fault_of k b) (cond v (first_failed tests) (Some t.1))
    by true more = more
    by false more = refl

abbrev pub kept_answer : Bool → Bool → Bool → Bool → Box → Option Fault
kept_answer p q r s b = cond p (cond q (cond r (cond s None (Some (fault_of CountMismatch b))) (Some (fault_of BadValue b))) (Some (fault_of BadValue b))) (Some (fault_of DuplicateBox b))

long_enough : (payload : List ℕ) → needed sbgp payload ≤ length payload → 4 ≤ length payload
long_enough payload room = by (version payload == 0) refl
  where
    by : (v : Bool) → (version payload == 0) ≡ v → 4 ≤ length payload
    by true e = let n : width_of (fields sbgp (version payload)) ≡ 12 = rw e refl in omega (arith, n, room)
    by false e = let n : width_of (fields sbgp (version payload)) ≡ 16 = rw e refl in omega (arith, n, room)

pub kept_go : (b : Box) (n : ℕ) (before : List Grouping) (p q r s : Bool) → IsReadable sbgp b.payload → keeps one_of_key n [] before (grouping_of b.payload) ≡ p → keeps few_keys n [] before (grouping_of b.payload) ≡ q → keeps index_range n [] before (grouping_of b.payload) ≡ r
    → keeps group_counts n [] before (grouping_of b.payload) ≡ s → first_failed (naming b (kept_tests n before b.payload)) ≡ kept_answer p q r s b
kept_go b n before p q r s read w x y z =
    let room = read.room in
    let known = read.version in
    let bare = read.flags in
    let long : nat_le 4 (length b.payload) ≡ true = nat_le_yes 4 (length b.payload) (long_enough b.payload room) in
    let fits : nat_le (needed sbgp b.payload) (length b.payload) ≡ true = nat_le_yes (needed sbgp b.payload) (length b.payload) room in
    (λ i. first_failed ((long i, fault_of ShortBox b) ∷ (known i, fault_of BadVersion b) ∷ (bare i, fault_of BadFlags b) ∷ (fits i, fault_of ShortBox b) ∷ (w i, fault_of DuplicateBox b) ∷ (x i, fault_of BadValue b) ∷ (y i, fault_of BadValue b) ∷ (z i, fault_of CountMismatch b)
    ∷ (true, fault_of BadValue b) ∷ (true, fault_of OutsideData b) ∷ (true, fault_of OffsetTooLarge b) ∷ []))

-- ---- one `sbgp` that was read

four_is : (x : ℕ) → (x ≡ 4) → (x == 4) ≡ true
four_is x e = grind (arith, nat_tests)

four_not : (x : ℕ) → (x ≡ 4 → ⊥) → (x == 4) ≡ false
four_not x e = grind (arith, nat_tests)

module _ (stbl b : Box) (key : GroupKey) (r : RowsAt) (n : ℕ) (at : GroupsAt) (g : GroupRead stbl b key r) (before : List Grouping) (so : GroupsSo stbl.payload n before at) where
  key_kept : (v : Bool) → list_any (same_key key) (keys_seen at.keys) ≡ v → keeps one_of_key n [] before (grouping_of b.payload) ≡ not v
  key_kept v e = keeps_key stbl.payload n n at before (grouping_of b.payload) v so (ap (λ k. list_any (same_key k) (keys_seen at.keys)) (sym g.named) ∙ e)

  few_kept : (v : Bool) → list_any (same_key key) (keys_seen at.keys) ≡ false → (length (keys_seen at.keys) == 4) ≡ v → keeps few_keys n [] before (grouping_of b.payload) ≡ not v
  few_kept v e l = keeps_few stbl.payload n n at before (grouping_of b.payload) v so (ap (λ k. list_any (same_key k) (keys_seen at.keys)) (sym g.named) ∙ e) l

  range_kept : (v : Bool) → all_below 65536 (runs_at stbl.payload r) ≡ v → keeps index_range n [] before (grouping_of b.payload) ≡ v
  range_kept v e = keeps_range n before (grouping_of b.payload) v (ap (all_below 65536) (sym g.same) ∙ e)

  count_kept : (v : Bool) → nat_le (total (runs_at stbl.payload r)) n ≡ v → keeps group_counts n [] before (grouping_of b.payload) ≡ v
  count_kept v e = ap (λ runs. nat_le (total runs) n) (sym g.same) ∙ e

  abbrev Kept : GroupRule → Bool
  Kept rule = keeps rule n [] before (grouping_of b.payload)

  pub group_is_second : list_any (same_key key) (keys_seen at.keys) ≡ true → first_failed (naming b (kept_tests n before b.payload)) ≡ Some (fault_of DuplicateBox b)
  group_is_second e = kept_go b n before false (Kept few_keys) (Kept index_range) (Kept group_counts) g.readable (key_kept true e) refl refl refl

  pub group_is_fifth : list_any (same_key key) (keys_seen at.keys) ≡ false → length (keys_seen at.keys) ≡ 4 → first_failed (naming b (kept_tests n before b.payload)) ≡ Some (fault_of BadValue b)
  group_is_fifth e l = kept_go b n before true false (Kept index_range) (Kept group_counts) g.readable (key_kept false e) (few_kept true e (four_is (length (keys_seen at.keys)) l)) refl refl

  pub group_is_high : list_any (same_key key) (keys_seen at.keys) ≡ false → (length (keys_seen at.keys) ≡ 4 → ⊥) → all_below 65536 (runs_at stbl.payload r) ≡ false → first_failed (naming b (kept_tests n before b.payload)) ≡ Some (fault_of BadValue b)
  group_is_high e l h = kept_go b n before true true false (Kept group_counts) g.readable (key_kept false e) (few_kept false e (four_not (length (keys_seen at.keys)) l)) (range_kept false h) refl

  pub group_is_long : list_any (same_key key) (keys_seen at.keys) ≡ false → (length (keys_seen at.keys) ≡ 4 → ⊥) → all_below 65536 (runs_at stbl.payload r) ≡ true → (total (runs_at stbl.payload r) ≤ n → ⊥) → first_failed (naming b (kept_tests n before b.payload)) ≡ Some (fault_of CountMismatch b)
  group_is_long e l h m = kept_go b n before true true true false g.readable (key_kept false e) (few_kept false e (four_not (length (keys_seen at.keys)) l)) (range_kept true h) (count_kept false (nat_le_no (total (runs_at stbl.payload r)) n (omega (arith, m))))

  pub group_is_kept : list_any (same_key key) (keys_seen at.keys) ≡ false → (length (keys_seen at.keys) ≡ 4 → ⊥) → all_below 65536 (runs_at stbl.payload r) ≡ true → total (runs_at stbl.payload r) ≤ n → first_failed (naming b (kept_tests n before b.payload)) ≡ None
  group_is_kept e l h m = kept_go b n before true true true true g.readable (key_kept false e) (few_kept false e (four_not (length (keys_seen at.keys)) l)) (range_kept true h) (count_kept true (nat_le_yes (total (runs_at stbl.payload r)) n m))

-- ---- the next child

-- the tests of the next child are those behind the `sbgp`s before it
pub child_step : (n : ℕ) (all before : List Grouping) (k : ℕ) (b : Box) (boxes : List Box) (v : Bool) → bytes_eq (codes "sbgp") b.kind ≡ v → (v ≡ true → (slice_get all k ≡ Some (grouping_of b.payload)) × (take k all ≡ before))
    → first_failed (groups_tests n [] all k (b ∷ boxes)) ≡ or_then (first_failed (child_tests n before b)) (first_failed (groups_tests n [] all (cond v (suc k) k) boxes))
child_step n all before k b boxes true e at =
    let is = at refl in
    let same : (rule : GroupRule) → group_test rule n [] all k ≡ keeps rule n [] before (grouping_of b.payload) = λ rule. test_at rule n k all (grouping_of b.payload) (keeps rule n [] before (grouping_of b.payload)) is.0 (ap (λ gs. keeps rule n [] gs (grouping_of b.payload)) is.1) in
    let tests : group_tests n [] all k ≡ map (λ rule. (keeps rule n [] before (grouping_of b.payload), group_kind rule)) group_rules = (λ i. map (λ rule. (same rule i, group_kind rule)) group_rules) in
    rw e (ap (λ (own : List (Test Kind)). first_failed (naming b (leaf_tests_with sbgp own b.payload) ++ groups_tests n [] all (suc k) boxes)) tests ∙ joined (naming b (kept_tests n before b.payload)) (groups_tests n [] all (suc k) boxes))
child_step n all before k b boxes false e at = rw e (joined (cond (bytes_eq (codes "sgpd") b.kind) (naming b (leaf_tests sgpd b.payload)) []) (groups_tests n [] all k boxes))
