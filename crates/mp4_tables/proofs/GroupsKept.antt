-- Sample groups one after the other: with one more their rules are kept where it keeps them.
use Rattle.std.proofs.Common.{◌≡◌, ℕ, zero, suc, ◌<◌, ◌≤◌, inl, inr, List, [], ◌∷◌, ◌++◌, length, take, map, subst, refl, ap, sym, ◌∙◌, arith, Bool, true, false, Some, None, length-append}
use Rattle.std.specs.Prelude.{nat_le, nat_lt, ◌==◌, ◌||◌, ◌&&◌, not, slice_set}
use Rattle.std.specs.List.{AllByRecursion, list_all, list_any, slice_get}
use Rattle.std.proofs.lemmas.Bool.{cases_lt}
use Rattle.std.proofs.lemmas.List.{length-set}
use Rattle.std.proofs.lemmas.Bool.Decides.{nat_tests}
use Rattle.mp4_boxes.proofs.Among.{all_append}
use Rattle.mp4_boxes.proofs.Plain.{and_is_true, get_last, get_some, nat_le_yes, nat_lt_is}
use Rattle.mp4_tables.specs.format.Repeated.{total}
use Rattle.mp4_tables.specs.format.Groups.{GroupKey, Grouping, GroupRule, one_of_key, few_keys, index_range, group_counts, same_key, keys_after, keeps, group_test}
use Rattle.mp4_tables.specs.words.Keys.{keys_seen}
use Rattle.mp4_tables.specs.words.Rows.{HaveRoom, runs_at}
use Rattle.mp4_tables.specs.words.TablesComing.{all_below}
use Rattle.mp4_tables.specs.words.Accepted.{grouped, group_rows, groupings_at, AreDistinct, AreUsed, AreIndexes, HaveGroups}
use Rattle.mp4_tables.specs.words.Leaves.{GroupsSo, SlotTaken}
use Rattle.mp4_tables.specs.declared.places.RowsAt.{RowsAt}
use Rattle.mp4_tables.specs.declared.places.GroupsAt.{GroupsAt}
use Rattle.mp4_tables.proofs.SampleLists.{same_both}
use Rattle.mp4_tables.proofs.IndexLists.{group_keys, grouped_keys}

-- ---- one more at the end of a list
found_before : {A : Type 0} (xs : List A) (y : A) (k : ℕ) → k < length xs → slice_get (xs ++ y ∷ []) k ≡ slice_get xs k
found_before [] y k h = absurd (omega arith)
found_before (x ∷ xs) y zero h = refl
found_before (x ∷ xs) y (suc k) h = found_before xs y k (omega arith)

pub found_none : {A : Type 0} (xs : List A) (k : ℕ) → length xs ≤ k → slice_get xs k ≡ None
found_none [] k h = refl
found_none (x ∷ xs) zero h = absurd (omega arith)
found_none (x ∷ xs) (suc k) h = found_none xs k (omega arith)

taken_before : {A : Type 0} (xs : List A) (y : A) (k : ℕ) → k ≤ length xs → take k (xs ++ y ∷ []) ≡ take k xs
taken_before xs y zero h = refl
taken_before [] y (suc k) h = absurd (omega arith)
taken_before (x ∷ xs) y (suc k) h = ap (λ zs. x ∷ zs) (taken_before xs y k (omega arith))

taken_all : {A : Type 0} (xs : List A) → take (length xs) xs ≡ xs
taken_all [] = refl
taken_all (x ∷ xs) = ap (λ zs. x ∷ zs) (taken_all xs)

pub test_at : (rule : GroupRule) (n k : ℕ) (gs : List Grouping) (g : Grouping) (v : Bool) → slice_get gs k ≡ Some g → keeps rule n [] (take k gs) g ≡ v → group_test rule n [] gs k ≡ v
test_at rule n k gs g v e h = rw e h

pub test_none : (rule : GroupRule) (n k : ℕ) (gs : List Grouping) → slice_get gs k ≡ None → group_test rule n [] gs k ≡ true
test_none rule n k gs e = rw e refl

kept_at : (rule : GroupRule) (n k : ℕ) (gs : List Grouping) (g : Grouping) → slice_get gs k ≡ Some g → group_test rule n [] gs k ≡ true → keeps rule n [] (take k gs) g ≡ true
kept_at rule n k gs g e h = rw e at h

-- the test at the last place is whether the last keeps the rule behind the others
pub test_last : (rule : GroupRule) (n : ℕ) (gs : List Grouping) (g : Grouping) (v : Bool) → keeps rule n [] gs g ≡ v → group_test rule n [] (gs ++ g ∷ []) (length gs) ≡ v
test_last rule n gs g v h = test_at rule n (length gs) (gs ++ g ∷ []) g v (get_last gs g) (ap (λ before. keeps rule n [] before g) (taken_before gs g (length gs) (omega arith) ∙ taken_all gs) ∙ h)

tests_more : (rule : GroupRule) (n : ℕ) (gs : List Grouping) (g : Grouping) → ((k : ℕ) → group_test rule n [] gs k ≡ true) → keeps rule n [] gs g ≡ true → (k : ℕ) → group_test rule n [] (gs ++ g ∷ []) k ≡ true
tests_more rule n gs g h last k = elim (cases_lt k (length gs)) [
  | inl before ↦
      let f = get_some gs k before in
      test_at rule n k (gs ++ g ∷ []) f.0 true (found_before gs g k before ∙ f.1) (ap (λ zs. keeps rule n [] zs f.0) (taken_before gs g k (omega arith)) ∙ kept_at rule n k gs f.0 f.1 (h k))
  | inr behind ↦ elim (cases_lt (length gs) k) [
    | inl past ↦ test_none rule n k (gs ++ g ∷ []) (found_none (gs ++ g ∷ []) k (omega (arith, length-append gs (g ∷ []))))
    | inr at ↦ let e : length gs ≡ k = omega arith in subst (λ m. group_test rule n [] (gs ++ g ∷ []) m ≡ true) e (test_last rule n gs g true last)
  ]
]

-- ---- what one `sbgp` keeps
any_mapped : (key : GroupKey) (gs : List Grouping) → list_any (λ (h : Grouping). same_key key h.key) gs ≡ list_any (same_key key) (map (λ (h : Grouping). h.key) gs)
any_mapped key [] = refl
any_mapped key (g ∷ gs) = ap (λ b. same_key key g.key || b) (any_mapped key gs)

-- the keys of `sbgp`s that were read
keys_read : (payload : List ℕ) (at : GroupsAt) (gs : List Grouping) → groupings_at payload at ≡ gs → HaveGroups payload at → (map (λ (h : Grouping). h.key) gs ≡ keys_seen at.keys) × (keys_after [] gs ≡ keys_seen at.keys)
keys_read payload at gs e h = (
  ap (λ hs. map (λ (h : Grouping). h.key) hs) (sym e) ∙ grouped_keys (keys_seen at.keys) (group_rows payload at) h.used,
  ap (keys_after []) (sym e) ∙ group_keys (keys_seen at.keys) (group_rows payload at) h.distinct h.used,
)

pub keeps_key : (payload : List ℕ) (n m : ℕ) (at : GroupsAt) (gs : List Grouping) (g : Grouping) (v : Bool) → GroupsSo payload n gs at → list_any (same_key g.key) (keys_seen at.keys) ≡ v → keeps one_of_key m [] gs g ≡ not v
keeps_key payload n m at gs g v s h = ap not (any_mapped g.key gs ∙ ap (list_any (same_key g.key)) (keys_read payload at gs s.same s.have).0 ∙ h)

pub keeps_few : (payload : List ℕ) (n m : ℕ) (at : GroupsAt) (gs : List Grouping) (g : Grouping) (v : Bool) → GroupsSo payload n gs at → list_any (same_key g.key) (keys_seen at.keys) ≡ false → (length (keys_seen at.keys) == 4) ≡ v → keeps few_keys m [] gs g ≡ not v
keeps_few payload n m at gs g v s h e =
    let k = (keys_read payload at gs s.same s.have).1 in
    ap (λ ks. list_any (same_key g.key) ks || not (length ks == 4)) k ∙ ap (λ b. b || not (length (keys_seen at.keys) == 4)) h ∙ ap not e

pub keeps_range : (n : ℕ) (gs : List Grouping) (g : Grouping) (v : Bool) → all_below 65536 g.rows ≡ v → keeps index_range n [] gs g ≡ v
keeps_range n gs g v e = of g.rows ∙ e
  where
    same : (x : ℕ) → nat_le x 65535 ≡ nat_lt x 65536
    same x = grind (arith, nat_tests)

    of : (runs : List (ℕ × ℕ)) → list_all (λ (row : ℕ × ℕ). nat_le row.1 65535) runs ≡ all_below 65536 runs
    of [] = refl
    of (run ∷ runs) = let a = same run.1 in let b = of runs in λ i. a i && b i

-- ---- one more `sbgp`
differs_step : (k a : GroupKey) (keys : List GroupKey) (v : Bool) → same_key k a ≡ v → list_any (same_key k) (a ∷ keys) ≡ false → (list_any (same_key k) keys ≡ false → AllByRecursion (λ other. same_key k other ≡ false) keys) → AllByRecursion (λ other. same_key k other ≡ false) (a ∷ keys)
differs_step k a keys true f e more = let g : true ≡ false = rw f at e in absurd cc
differs_step k a keys false f e more = (f, more (rw f at e))

pub differs_from : (k : GroupKey) (keys : List GroupKey) → list_any (same_key k) keys ≡ false → AllByRecursion (λ other. same_key k other ≡ false) keys
differs_from k [] e = tt
differs_from k (a ∷ keys) e = differs_step k a keys (same_key k a) refl e (differs_from k keys)

pub snoc_distinct : (keys : List GroupKey) (k : GroupKey) → AreDistinct keys → AllByRecursion (λ other. same_key k other ≡ false) keys → AreDistinct (keys ++ k ∷ [])
snoc_distinct [] k d h = (tt, tt)
snoc_distinct (a ∷ keys) k d h = (all_append (λ other. same_key a other ≡ false) keys (k ∷ []) d.0 (same_both a k ∙ h.0, tt), snoc_distinct keys k d.1 h.1)

index_rows : (runs : List (ℕ × ℕ)) → all_below 65536 runs ≡ true → AreIndexes runs
index_rows [] e = tt
index_rows (run ∷ runs) e = let p = and_is_true (nat_lt run.1 65536) (all_below 65536 runs) e in let l = nat_lt_is run.1 65536 p.0 in (omega arith, index_rows runs p.1)

-- the rows of the groupings, with one slot taken
shape : (payload : List ℕ) (keys : List GroupKey) (rows : List RowsAt) (k : GroupKey) (r : RowsAt) → length keys < length rows → AreUsed keys (map (runs_at payload) rows)
    → (grouped (keys ++ k ∷ []) (map (runs_at payload) (slice_set rows (length keys) r)) ≡ grouped keys (map (runs_at payload) rows) ++ record { key = k; rows = runs_at payload r } ∷ [])
    × AreUsed (keys ++ k ∷ []) (map (runs_at payload) (slice_set rows (length keys) r))
shape payload keys [] k r l u = absurd (omega (arith, l))
shape payload [] (s ∷ rows) k r l u = (refl, u.1)
shape payload (a ∷ keys) (s ∷ rows) k r l u = let h = shape payload keys rows k r (omega (arith, l)) u in (ap (λ (gs : List Grouping). record { key = a; rows = runs_at payload s } ∷ gs) h.0, h.1)

pub all_set : {A : Type 0} (P : A → Type 0) (xs : List A) (j : ℕ) (x : A) → AllByRecursion P xs → P x → AllByRecursion P (slice_set xs j x)
all_set P [] j x h own = tt
all_set P (y ∷ xs) zero x h own = (own, h.1)
all_set P (y ∷ xs) (suc j) x h own = (h.0, all_set P xs j x h.1 own)

all_keep : (payload : List ℕ) (n : ℕ) (at : GroupsAt) (gs : List Grouping) (g : Grouping) → GroupsSo payload n gs at → list_any (same_key g.key) (keys_seen at.keys) ≡ false → (length (keys_seen at.keys) == 4) ≡ false → all_below 65536 g.rows ≡ true → nat_le (total g.rows) n ≡ true
    → (rule : GroupRule) → keeps rule n [] gs g ≡ true
all_keep payload n at gs g s k f b t one_of_key = keeps_key payload n n at gs g false s k
all_keep payload n at gs g s k f b t few_keys = keeps_few payload n n at gs g false s k f
all_keep payload n at gs g s k f b t index_range = keeps_range n gs g true b
all_keep payload n at gs g s k f b t group_counts = t

-- with one more `sbgp` that keeps all rules, all are still kept
pub group_added : (payload : List ℕ) (n : ℕ) (at after : GroupsAt) (gs : List Grouping) (k : GroupKey) (r : RowsAt) → GroupsSo payload n gs at → keys_seen after.keys ≡ keys_seen at.keys ++ k ∷ [] → SlotTaken (length (keys_seen at.keys)) at r after
    → list_any (same_key k) (keys_seen at.keys) ≡ false → length (keys_seen at.keys) < 4 → HaveRoom 8 payload r → all_below 65536 (runs_at payload r) ≡ true → total (runs_at payload r) ≤ n → GroupsSo payload n (gs ++ record { key = k; rows = runs_at payload r } ∷ []) after
group_added payload n at after gs k r s ks slot new l room small few =
    let keys = keys_seen at.keys in
    let g : Grouping = record { key = k; rows = runs_at payload r } in
    let four = s.have.four in
    let sh = shape payload keys at.rows.by_key k r (omega (arith, four, l)) s.have.used in
    let many : (length keys == 4) ≡ false = not_four (length keys) (omega arith) in
    record {
      same = ap (λ x. grouped x (group_rows payload after)) ks ∙ ap (λ rows. grouped (keys ++ k ∷ []) (map (runs_at payload) rows)) slot ∙ sh.0 ∙ ap (λ (x : List Grouping). x ++ g ∷ []) s.same;
      have = record {
        four = ap (λ (rows : List RowsAt). length rows) slot ∙ length-set at.rows.by_key (length keys) r ∙ four;
        room = subst (AllByRecursion (HaveRoom 8 payload)) (sym slot) (all_set (HaveRoom 8 payload) at.rows.by_key (length keys) r s.have.room room);
        indexes = subst (AllByRecursion (λ (rows : RowsAt). AreIndexes (runs_at payload rows))) (sym slot)
            (all_set (λ (rows : RowsAt). AreIndexes (runs_at payload rows)) at.rows.by_key (length keys) r s.have.indexes (index_rows (runs_at payload r) small));
        distinct = subst AreDistinct (sym ks) (snoc_distinct keys k s.have.distinct (differs_from k keys new));
        used = subst (λ x. AreUsed x (group_rows payload after)) (sym ks) (subst (λ rows. AreUsed (keys ++ k ∷ []) (map (runs_at payload) rows)) (sym slot) sh.1);
      };
      tests = λ rule i. tests_more rule n gs g (s.tests rule) (all_keep payload n at gs g s new many small (nat_le_yes (total (runs_at payload r)) n few) rule) i;
    }
  where
    not_four : (x : ℕ) → x < 4 → (x == 4) ≡ false
    not_four x h = grind (arith, nat_tests)
