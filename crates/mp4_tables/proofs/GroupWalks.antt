-- Sample groups child by child: what was read so far, the faults of the next child, and the rows that were passed.
use Rattle.std.proofs.Common.{◌≡◌, ℕ, suc, ◌+◌, ◌*◌, ◌<◌, ◌≤◌, inl, inr, List, [], ◌∷◌, ◌++◌, length, take, drop, map, subst, refl, ap, sym, ◌∙◌, arith, Bool, true, false, cond, None, Some, length-append}
use Rattle.std.specs.Prelude.{bytes_eq, codes, slice_set, slice_index_or}
use Rattle.std.specs.List.{AllByRecursion, slice_get}
use Rattle.std.proofs.lemmas.List.{append-nil, append_assoc}
use Rattle.mp4_tables.proofs.RowLists.{runs_all, runs_length}
use Rattle.mp4_boxes.proofs.Among.{all_append, of_kind-split, of_kind-append}
use Rattle.mp4_tables.specs.format.Groups.{GroupKey, GroupRule, Grouping, one_of_key, few_keys, index_range, group_counts, grouping_of, groupings_of, group_reads}
use Rattle.mp4_tables.specs.words.Keys.{keys_seen}
use Rattle.mp4_boxes.specs.format.Bytes.{sum_of}
use Rattle.mp4_tables.specs.words.Rows.{HaveRoom, runs_at}
use Rattle.mp4_tables.specs.words.Accepted.{group_count, grouped, group_rows, AreDistinct, AreUsed, AreIndexes, HaveGroups}
use Rattle.mp4_boxes.specs.format.Box.{Box}
use Rattle.mp4_boxes.specs.format.Children.{of_kind}
use Rattle.mp4_boxes.specs.format.Layout.{sbgp, sgpd, IsReadable, IsSound}
use Rattle.mp4_boxes.proofs.Sound.{same_kind}
use Rattle.mp4_tables.specs.format.TableRules.{GroupsReadable}
use Rattle.mp4_boxes.specs.declared.fault.Fault.{Fault}
use Rattle.mp4_tables.specs.words.Leaves.{GroupsSo, GroupPassed, SlotTaken, IsChild, boxes_of, AllOf, tables_in, ChildRead}
use Rattle.mp4_tables.specs.declared.places.RowsAt.{RowsAt}
use Rattle.mp4_tables.specs.declared.places.GroupsAt.{GroupsAt}
use Rattle.mp4_tables.proofs.IndexesLeft.{four}
use Rattle.mp4_tables.proofs.TableRows.{groups_count}
use Rattle.mp4_tables.proofs.GroupsKept.{found_none, test_none}
use Rattle.mp4_boxes.specs.format.FirstFault.{first_failed}
use Rattle.mp4_tables.specs.format.FirstFault.{groups_tests}
use Rattle.mp4_tables.specs.words.RowTests.{child_tests}
use Rattle.mp4_tables.proofs.FirstGroups.{or_then, child_step}

-- ---- lifting to the children of an `stbl`
found_in : {A B : Type 0} (f : A → B) (xs ys : List A) (y : A) → slice_get (map f (xs ++ y ∷ ys)) (length xs) ≡ Some (f y)
found_in f [] ys y = refl
found_in f (x ∷ xs) ys y = found_in f xs ys y

pub found_there : {A : Type 0} (xs ys : List A) (y : A) → slice_get (xs ++ y ∷ ys) (length xs) ≡ Some y
found_there [] ys y = refl
found_there (x ∷ xs) ys y = found_there xs ys y

taken_in : {A B : Type 0} (f : A → B) (xs ys : List A) → take (length xs) (map f (xs ++ ys)) ≡ map f xs
taken_in f [] ys = refl
taken_in f (x ∷ xs) ys = ap (λ zs. f x ∷ zs) (taken_in f xs ys)

pub taken_with : {A : Type 0} (xs ys : List A) (y : A) → take (suc (length xs)) (xs ++ y ∷ ys) ≡ xs ++ y ∷ []
taken_with [] ys y = refl
taken_with (x ∷ xs) ys y = ap (λ zs. x ∷ zs) (taken_with xs ys y)

dropped_to : {A : Type 0} (xs : List A) (y : A) → drop (length xs) (xs ++ y ∷ []) ≡ y ∷ []
dropped_to [] y = refl
dropped_to (x ∷ xs) y = dropped_to xs y

pub record GroupsPassed (stbl : Box) (n : ℕ) (at : GroupsAt) (left : List Box) : Type 0 where
  pub passed : List Box
  pub is : boxes_of stbl ≡ passed ++ left
  pub so : GroupsSo stbl.payload n (groupings_of (of_kind (codes "sbgp") passed)) at
  pub groups : AllOf (codes "sbgp") (IsReadable sbgp) passed
  pub described : AllOf (codes "sgpd") (IsSound sgpd) passed
  pub first : first_failed (groups_tests n [] (tables_in stbl).groups 0 (boxes_of stbl)) ≡ first_failed (groups_tests n [] (tables_in stbl).groups (length (of_kind (codes "sbgp") passed)) left)

-- where the next child stands among the `sbgp`s
next_stands : (stbl b : Box) (n : ℕ) (at : GroupsAt) (left later : List Box) (p : GroupsPassed stbl n at left) → left ≡ b ∷ later → bytes_eq (codes "sbgp") b.kind ≡ true
    → (slice_get (tables_in stbl).groups (length (of_kind (codes "sbgp") p.passed)) ≡ Some (grouping_of b.payload)) × (take (length (of_kind (codes "sbgp") p.passed)) (tables_in stbl).groups ≡ groupings_of (of_kind (codes "sbgp") p.passed))
next_stands stbl b n at left later p e k =
    let G = of_kind (codes "sbgp") p.passed in
    let M = of_kind (codes "sbgp") later in
    let all : boxes_of stbl ≡ p.passed ++ b ∷ later = p.is ∙ ap (λ bs. p.passed ++ bs) e in
    let split : of_kind (codes "sbgp") (boxes_of stbl) ≡ G ++ b ∷ M = ap (of_kind (codes "sbgp")) all ∙ of_kind-split (codes "sbgp") p.passed later b k in
    (ap (λ bs. slice_get (groupings_of bs) (length G)) split ∙ found_in (λ (c : Box). grouping_of c.payload) G M b, ap (λ bs. take (length G) (groupings_of bs)) split ∙ taken_in (λ (c : Box). grouping_of c.payload) G (b ∷ M))

-- what is told of the children that are left, by the next
next_told : (stbl b : Box) (n : ℕ) (at : GroupsAt) (left later : List Box) (p : GroupsPassed stbl n at left) → left ≡ b ∷ later → (v : Bool) → bytes_eq (codes "sbgp") b.kind ≡ v
    → first_failed (groups_tests n [] (tables_in stbl).groups 0 (boxes_of stbl))
    ≡ or_then (first_failed (child_tests n (groupings_of (of_kind (codes "sbgp") p.passed)) b)) (first_failed (groups_tests n [] (tables_in stbl).groups (cond v (suc (length (of_kind (codes "sbgp") p.passed))) (length (of_kind (codes "sbgp") p.passed))) later))
next_told stbl b n at left later p e v k =
    p.first ∙ ap (λ bs. first_failed (groups_tests n [] (tables_in stbl).groups (length (of_kind (codes "sbgp") p.passed)) bs)) e
    ∙ child_step n (tables_in stbl).groups (groupings_of (of_kind (codes "sbgp") p.passed)) (length (of_kind (codes "sbgp") p.passed)) b later v k (λ t. next_stands stbl b n at left later p e (k ∙ t))

-- the fault of the next child is the first of all
pub first_of_next : (stbl b : Box) (n : ℕ) (at : GroupsAt) (left later : List Box) (f : Fault) (p : GroupsPassed stbl n at left) → left ≡ b ∷ later → first_failed (child_tests n (groupings_of (of_kind (codes "sbgp") p.passed)) b) ≡ Some f
    → first_failed (groups_tests n [] (tables_in stbl).groups 0 (boxes_of stbl)) ≡ Some f
first_of_next stbl b n at left later f p e t =
    let v = bytes_eq (codes "sbgp") b.kind in
    next_told stbl b n at left later p e v refl ∙ ap (λ o. or_then o (first_failed (groups_tests n [] (tables_in stbl).groups (cond v (suc (length (of_kind (codes "sbgp") p.passed))) (length (of_kind (codes "sbgp") p.passed))) later))) t

pub groups_readable : (rule : GroupRule) (gs more : List Box) (b : Box) → GroupsReadable gs → IsReadable sbgp b.payload → GroupsReadable (group_reads rule (length gs) (gs ++ b ∷ more))
groups_readable one_of_key gs more b h k = subst GroupsReadable (sym (taken_with gs more b)) (all_append (λ (c : Box). IsReadable sbgp c.payload) gs (b ∷ []) h (k, tt))
groups_readable few_keys gs more b h k = subst GroupsReadable (sym (taken_with gs more b)) (all_append (λ (c : Box). IsReadable sbgp c.payload) gs (b ∷ []) h (k, tt))
groups_readable index_range gs more b h k = subst GroupsReadable (sym (ap (drop (length gs)) (taken_with gs more b) ∙ dropped_to gs b)) (k, tt)
groups_readable group_counts gs more b h k = subst GroupsReadable (sym (ap (drop (length gs)) (taken_with gs more b) ∙ dropped_to gs b)) (k, tt)

-- ---- walking over the children
pub no_groups_so : (payload : List ℕ) (n : ℕ) (at : GroupsAt) → keys_seen at.keys ≡ [] → at.rows.by_key ≡ record { place = 0; count = 0 } ∷ record { place = 0; count = 0 } ∷ record { place = 0; count = 0 } ∷ record { place = 0; count = 0 } ∷ []
    → GroupsSo payload n [] at
no_groups_so payload n at k e = record {
  same = ap (λ ks. grouped ks (group_rows payload at)) k;
  have = record {
    four = ap (λ (rows : List RowsAt). length rows) e;
    room = subst (AllByRecursion (HaveRoom 8 payload)) (sym e) (omega arith, (omega arith, (omega arith, (omega arith, tt))));
    indexes = subst (AllByRecursion (λ (rows : RowsAt). AreIndexes (runs_at payload rows))) (sym e) (none_index, (none_index, (none_index, (none_index, tt))));
    distinct = subst AreDistinct (sym k) tt;
    used = subst (λ ks. AreUsed ks (group_rows payload at)) (sym k)
        (subst (λ rows. AllByRecursion (λ (runs : List (ℕ × ℕ)). runs ≡ []) (map (runs_at payload) rows)) (sym e) (no_rows, (no_rows, (no_rows, (no_rows, tt)))));
  };
  tests = λ rule i. test_none rule n i [] (found_none [] i (omega arith));
}
  where
    no_rows : runs_at payload (record { place = 0; count = 0 }) ≡ []
    no_rows = runs_all payload (record { place = 0; count = 0 }) 0 (omega arith)

    none_index : AreIndexes (runs_at payload (record { place = 0; count = 0 }))
    none_index = subst AreIndexes (sym no_rows) tt

pub passed_first : (stbl : Box) (n : ℕ) (at : GroupsAt) (left : List Box) → GroupsSo stbl.payload n [] at → left ≡ boxes_of stbl → GroupsPassed stbl n at left
passed_first stbl n at left s e = record { passed = []; is = sym e; so = s; groups = tt; described = tt; first = ap (λ bs. first_failed (groups_tests n [] (tables_in stbl).groups 0 bs)) (sym e) }

pub next_child : (stbl b : Box) (n : ℕ) (at : GroupsAt) (left later : List Box) → GroupsPassed stbl n at left → left ≡ b ∷ later → IsChild stbl b
next_child stbl b n at left later p e = record { before = p.passed; after = later; is = p.is ∙ ap (λ bs. p.passed ++ bs) e }

all_snoc : (kind : List ℕ) (P : List ℕ → Type 0) (boxes : List Box) (b : Box) → AllOf kind P boxes → (bytes_eq kind b.kind ≡ true → P b.payload) → AllOf kind P (boxes ++ b ∷ [])
all_snoc kind P boxes b h p = all_append (λ (c : Box). bytes_eq kind c.kind ≡ true → P c.payload) boxes (b ∷ []) h (p, tt)

pub kind_snoc_other : (kind : List ℕ) (boxes : List Box) (b : Box) → bytes_eq kind b.kind ≡ false → of_kind kind (boxes ++ b ∷ []) ≡ of_kind kind boxes
kind_snoc_other kind boxes b e = of_kind-append kind boxes (b ∷ []) ∙ rw e (append-nil (of_kind kind boxes))

pub kind_snoc : (kind : List ℕ) (boxes : List Box) (b : Box) → bytes_eq kind b.kind ≡ true → of_kind kind (boxes ++ b ∷ []) ≡ of_kind kind boxes ++ b ∷ []
kind_snoc kind boxes b e = of_kind-append kind boxes (b ∷ []) ∙ rw e refl

pub mapped_snoc : (gs : List Box) (b : Box) → groupings_of (gs ++ b ∷ []) ≡ groupings_of gs ++ grouping_of b.payload ∷ []
mapped_snoc [] b = refl
mapped_snoc (g ∷ gs) b = ap (λ xs. grouping_of g.payload ∷ xs) (mapped_snoc gs b)

pub passed_next : (stbl b : Box) (n : ℕ) (at after : GroupsAt) (left later : List Box) (p : GroupsPassed stbl n at left) → left ≡ b ∷ later → first_failed (child_tests n (groupings_of (of_kind (codes "sbgp") p.passed)) b) ≡ None → ChildRead stbl.payload n at b after → GroupsPassed stbl n after later
passed_next stbl b n at after left later p e t (inl o) = record {
  first = next_told stbl b n at left later p e false o.other ∙ ap (λ o. or_then o (first_failed (groups_tests n [] (tables_in stbl).groups (length (of_kind (codes "sbgp") p.passed)) later))) t
      ∙ ap (λ bs. first_failed (groups_tests n [] (tables_in stbl).groups (length bs) later)) (sym (kind_snoc_other (codes "sbgp") p.passed b o.other));
  passed = p.passed ++ b ∷ [];
  is = p.is ∙ ap (λ bs. p.passed ++ bs) e ∙ sym (append_assoc p.passed (b ∷ []) later);
  so = subst (λ bs. GroupsSo stbl.payload n (groupings_of bs) after) (sym (kind_snoc_other (codes "sbgp") p.passed b o.other)) (subst (GroupsSo stbl.payload n (groupings_of (of_kind (codes "sbgp") p.passed))) (sym o.same) p.so);
  groups = all_snoc (codes "sbgp") (IsReadable sbgp) p.passed b p.groups (λ k. absurd (clash k o.other));
  described = all_snoc (codes "sgpd") (IsSound sgpd) p.passed b p.described o.described;
}
  where
    clash : {c : Bool} → c ≡ true → c ≡ false → ⊥
    clash x y = cc
passed_next stbl b n at after left later p e t (inr (k, g)) = record {
  first = next_told stbl b n at left later p e true k ∙ ap (λ o. or_then o (first_failed (groups_tests n [] (tables_in stbl).groups (suc (length (of_kind (codes "sbgp") p.passed))) later))) t
      ∙ ap (λ m. first_failed (groups_tests n [] (tables_in stbl).groups m later)) (omega (arith, ap (λ (bs : List Box). length bs) (kind_snoc (codes "sbgp") p.passed b k), length-append (of_kind (codes "sbgp") p.passed) (b ∷ [])));
  passed = p.passed ++ b ∷ [];
  is = p.is ∙ ap (λ bs. p.passed ++ bs) e ∙ sym (append_assoc p.passed (b ∷ []) later);
  so = subst (λ bs. GroupsSo stbl.payload n bs after) (sym (ap groupings_of (kind_snoc (codes "sbgp") p.passed b k) ∙ mapped_snoc (of_kind (codes "sbgp") p.passed) b)) (g.so (groupings_of (of_kind (codes "sbgp") p.passed)) p.so);
  groups = all_snoc (codes "sbgp") (IsReadable sbgp) p.passed b p.groups (λ _. g.readable);
  described = all_snoc (codes "sgpd") (IsSound sgpd) p.passed b p.described (λ d. absurd (two_kinds (same_kind (codes "sbgp") b.kind k) d));
}
  where
    two_kinds : b.kind ≡ codes "sbgp" → bytes_eq (codes "sgpd") b.kind ≡ true → ⊥
    two_kinds s d = let f : false ≡ true = subst (λ x. bytes_eq (codes "sgpd") x ≡ true) s d in cc

-- nothing is told where all have passed
pub none_left : (stbl : Box) (n : ℕ) (at : GroupsAt) (left : List Box) → GroupsPassed stbl n at left → left ≡ [] → first_failed (groups_tests n [] (tables_in stbl).groups 0 (boxes_of stbl)) ≡ None
none_left stbl n at left p e = p.first ∙ ap (λ bs. first_failed (groups_tests n [] (tables_in stbl).groups (length (of_kind (codes "sbgp") p.passed)) bs)) e

-- ---- rows that were passed

-- a slot that no key has is empty
none_counted : (payload : List ℕ) (r : RowsAt) → runs_at payload r ≡ [] → r.count ≡ 0
none_counted payload r e = sym (runs_length payload r) ∙ ap (λ (xs : List (ℕ × ℕ)). length xs) e

-- one more `sbgp` has its rows in an empty slot
slot_counted : (payload : List ℕ) (keys : List GroupKey) (rows : List RowsAt) (r : RowsAt) → AreUsed keys (map (runs_at payload) rows) → length keys < length rows
    → sum_of (λ (x : RowsAt). x.count) (slice_set rows (length keys) r) ≡ sum_of (λ (x : RowsAt). x.count) rows + r.count
slot_counted payload keys [] r u h = absurd (omega (arith, h))
slot_counted payload [] (s ∷ rows) r u h = let z = none_counted payload s u.0 in omega (arith, z)
slot_counted payload (k ∷ keys) (s ∷ rows) r u h = let more = slot_counted payload keys rows r u (omega (arith, h)) in omega (arith, more)

pub group_passed : (payload : List ℕ) (n old new : ℕ) (at after : GroupsAt) (r : RowsAt) → SlotTaken (length (keys_seen at.keys)) at r after → length (keys_seen at.keys) < 4 → new ≡ old + 2 * r.count → GroupPassed payload n at after old new
group_passed payload n old new at after r s few h = λ gs so.
    let four = so.have.four in
    let e = ap (λ rows. sum_of (λ (x : RowsAt). x.count) rows) s ∙ slot_counted payload (keys_seen at.keys) at.rows.by_key r so.have.used (omega (arith, four, few)) in
    omega (arith, e, h)

-- no groups have no rows
pub none_passed : (payload : List ℕ) (n : ℕ) (at : GroupsAt) → GroupsSo payload n [] at → group_count at ≡ 0
none_passed payload n at so = groups_count payload at so.have.used ∙ ap (λ gs. sum_of (λ (g : Grouping). length g.rows) gs) so.same

-- all rows that were read lie in the payload
pub rows_bounded : (payload : List ℕ) (at : GroupsAt) → HaveGroups payload at → 2 * group_count at ≤ length payload
rows_bounded payload at h =
    let d : RowsAt = record { place = 0; count = 0 } in
    let e = four at.rows.by_key d h.four in
    let room : AllByRecursion (HaveRoom 8 payload) (slice_index_or at.rows.by_key 0 d ∷ slice_index_or at.rows.by_key 1 d ∷ slice_index_or at.rows.by_key 2 d ∷ slice_index_or at.rows.by_key 3 d ∷ []) = subst (AllByRecursion (HaveRoom 8 payload)) e h.room in
    let n = ap (λ rows. sum_of (λ (x : RowsAt). x.count) rows) e in
    let first = room.0 in let second = room.1.0 in let third = room.1.1.0 in let fourth = room.1.1.1.0 in
    omega (arith, n, first, second, third, fourth)
