-- The `sbgp`s of a `traf`, passed one by one.
use Rattle.std.proofs.Common.{◌≡◌, ℕ, zero, suc, ◌≤◌, length, Bool, true, false, nat_le, List, [], ◌∷◌, ◌++◌, map, drop, replicate, Some, None, refl, sym, ap, subst, ◌∙◌}
use Rattle.std.specs.Prelude.{codes, bytes_eq, IsTrue}
use Rattle.std.specs.List.{list_all}
use Rattle.std.proofs.lemmas.List.{append_assoc, append-nil}
use Rattle.mp4_boxes.specs.format.Bytes.{rows}
use Rattle.mp4_boxes.specs.format.Box.{Box}
use Rattle.mp4_boxes.specs.format.Children.{of_kind}
use Rattle.mp4_boxes.specs.format.BoxFaults.{fault_of}
use Rattle.mp4_boxes.specs.declared.fault.Kind.{Kind}
use Rattle.mp4_tables.specs.format.Groups.{GroupKey, Grouping, GroupRule, one_of_key, few_keys, index_range, group_counts, max_index, grouping_of, groupings_of, keeps, keys_after}
use Rattle.mp4_tables.specs.words.Keys.{key_seen}
use Rattle.mp4_tables.specs.format.Repeated.{total}
use Rattle.mp4_tables.specs.words.Rows.{run_of, runs_at}
use Rattle.mp4_frag.specs.words.GroupsJudged.{IsGroupSound, AreGroupsSound, AreNamed, NamesOneMore, is_named_at}
use Rattle.mp4_tables.specs.words.GroupBoxes.{IsGroup, group_runs}
use Rattle.mp4_tables.specs.declared.group_boxes.Group.{Group}
use Rattle.std.specs.Prelude.{option_map}
use Rattle.mp4_boxes.specs.format.FirstFault.{first_failed, naming}
use Rattle.mp4_tables.proofs.FirstGroups.{named_first}
use Rattle.mp4_frag.specs.words.FragmentTests.{one_group_tests, traf_groups_tests}
use Rattle.mp4_frag.proofs.FirstRun.{behind_all}
use Rattle.mp4_frag.proofs.Comings.{turned}
use Rattle.mp4_tables.proofs.InOrder.{fails_first}

-- ---- one `sbgp`

rows_are : (payload : List ℕ) (group : Group) → IsGroup payload group → group_runs payload group ≡ (grouping_of payload).rows
unfolding runs_at
rows_are payload group g = let place = g.rows in let count = g.count in λ i. map run_of (rows (count i) (4 ∷ 4 ∷ []) (drop (place i) payload))

pub key_is : (payload : List ℕ) (group : Group) → IsGroup payload group → (grouping_of payload).key ≡ key_seen group.key
key_is payload group g = sym g.key

-- whether its indexes and its counts keep the rules
pub index_kept : (n : ℕ) (first : List GroupKey) (before : List Grouping) (payload : List ℕ) (group : Group) (v : Bool) → IsGroup payload group → v ≡ list_all (λ run. nat_le run.1 max_index) (group_runs payload group) → keeps index_range n first before (grouping_of payload) ≡ v
index_kept n first before payload group v g e = ap (list_all (λ run. nat_le run.1 max_index)) (sym (rows_are payload group g)) ∙ sym e

pub count_kept : (n : ℕ) (first : List GroupKey) (before : List Grouping) (payload : List ℕ) (group : Group) (v : Bool) → IsGroup payload group → v ≡ nat_le (total (group_runs payload group)) n → keeps group_counts n first before (grouping_of payload) ≡ v
count_kept n first before payload group v g e = ap (λ runs. nat_le (total runs) n) (sym (rows_are payload group g)) ∙ sym e

-- it keeps all rules
pub group_sound : (n : ℕ) (first now : List GroupKey) (before : List Grouping) (payload : List ℕ) (group : Group) (named : List Bool) → IsGroup payload group → NamesOneMore first before (grouping_of payload) now named
    → true ≡ list_all (λ run. nat_le run.1 max_index) (group_runs payload group) → true ≡ nat_le (total (group_runs payload group)) n → IsGroupSound n first before payload
group_sound n first now before payload group named g m e f = record { readable = g.readable; rules = rule }
  where
    rule : (r : GroupRule) → IsTrue (keeps r n first before (grouping_of payload))
    rule one_of_key = m.once
    rule few_keys = m.room
    rule index_range = ap (list_all (λ run. nat_le run.1 max_index)) (sym (rows_are payload group g)) ∙ sym e
    rule group_counts = ap (λ runs. nat_le (total runs) n) (sym (rows_are payload group g)) ∙ sym f

-- ---- all of them

abbrev groups_of : List Box → List Box
groups_of boxes = of_kind (codes "sbgp") boxes

-- Of all boxes these are left; the groupings passed named the keys.
pub record GroupsSeen (n : ℕ) (first : List GroupKey) (all left : List Box) (now : List GroupKey) (named : List Bool) : Type 0 where
  pub before : List Grouping
  pub names : AreNamed first before now named
  pub groupings : groupings_of (groups_of all) ≡ before ++ groupings_of (groups_of left)
  pub sound : AreGroupsSound n first before (groups_of left) → AreGroupsSound n first [] (groups_of all)
  pub names_first : first_failed (traf_groups_tests n first [] (groups_of all)) ≡ first_failed (traf_groups_tests n first before (groups_of left))

none_named : (j : ℕ) → is_named_at (replicate 4 false) j ≡ false
none_named zero = refl
none_named (suc zero) = refl
none_named (suc (suc zero)) = refl
none_named (suc (suc (suc zero))) = refl
none_named (suc (suc (suc (suc j)))) = refl

-- none was passed
pub groups_none : (n : ℕ) (first : List GroupKey) (all : List Box) (named : List Bool) → length first ≤ 4 → named ≡ replicate 4 false → GroupsSeen n first all all first named
groups_none n first all named few e = record {
  before = [];
  names = record { keys_now = refl; few = few; there = λ key j f. ap (λ (m : List Bool). is_named_at m j) e ∙ none_named j; missing = λ key f. refl };
  groupings = refl;
  sound = λ h. h;
  names_first = refl;
}

group_kept : (b : Box) (boxes : List Box) → bytes_eq b.kind (codes "sbgp") ≡ true → groups_of (b ∷ boxes) ≡ b ∷ groups_of boxes
group_kept b boxes e = rw (turned (codes "sbgp") b.kind ∙ e) refl

-- an `sbgp` that is sound
pub groups_more : (n : ℕ) (first : List GroupKey) (all left later : List Box) (b : Box) (now then_now : List GroupKey) (named then_named : List Bool) → GroupsSeen n first all left now named → left ≡ b ∷ later → bytes_eq b.kind (codes "sbgp") ≡ true
    → ((keys : List GroupKey) (before : List Grouping) → AreNamed keys before now named → IsGroupSound n keys before b.payload)
    → ((keys : List GroupKey) (before : List Grouping) → AreNamed keys before now named → AreNamed keys (before ++ grouping_of b.payload ∷ []) then_now then_named)
    → ((keys : List GroupKey) (before : List Grouping) → AreNamed keys before now named → first_failed (one_group_tests n keys before b.payload) ≡ None)
    → GroupsSeen n first all later then_now then_named
groups_more n first all left later b now then_now named then_named s e k is_sound is_named is_fine =
    let same : groups_of left ≡ b ∷ groups_of later = ap groups_of e ∙ group_kept b later k in
    let one = is_sound first s.before s.names in
    record {
      before = s.before ++ grouping_of b.payload ∷ [];
      names = is_named first s.before s.names;
      groupings = s.groupings ∙ ap (λ boxes. s.before ++ groupings_of boxes) same ∙ sym (append_assoc s.before (grouping_of b.payload ∷ []) (groupings_of (groups_of later)));
      sound = λ h. s.sound (subst (AreGroupsSound n first s.before) (sym same) (one, h));
      names_first = s.names_first ∙ ap (λ (boxes : List Box). first_failed (traf_groups_tests n first s.before boxes)) same
          ∙ behind_all (naming b (one_group_tests n first s.before b.payload)) (traf_groups_tests n first (s.before ++ grouping_of b.payload ∷ []) (groups_of later)) _
          (named_first b (one_group_tests n first s.before b.payload) ∙ ap (option_map (λ (k : Kind). fault_of k b)) (is_fine first s.before s.names)) refl;
    }

-- an `sbgp` that is named
pub group_first : (n : ℕ) (first : List GroupKey) (all left later : List Box) (b : Box) (now : List GroupKey) (named : List Bool) (kind : Kind) → GroupsSeen n first all left now named → left ≡ b ∷ later → bytes_eq b.kind (codes "sbgp") ≡ true
    → ((keys : List GroupKey) (before : List Grouping) → AreNamed keys before now named → first_failed (one_group_tests n keys before b.payload) ≡ Some kind) → first_failed (traf_groups_tests n first [] (groups_of all)) ≡ Some (fault_of kind b)
group_first n first all left later b now named kind s e k h =
    let same : groups_of left ≡ b ∷ groups_of later = ap groups_of e ∙ group_kept b later k in
    s.names_first ∙ ap (λ (boxes : List Box). first_failed (traf_groups_tests n first s.before boxes)) same
    ∙ fails_first (naming b (one_group_tests n first s.before b.payload)) (traf_groups_tests n first (s.before ++ grouping_of b.payload ∷ []) (groups_of later)) (fault_of kind b)
    (named_first b (one_group_tests n first s.before b.payload) ∙ ap (option_map (λ (k : Kind). fault_of k b)) (h first s.before s.names))

-- none is
pub groups_first : (n : ℕ) (first : List GroupKey) (all left boxes : List Box) (now : List GroupKey) (named : List Bool) → GroupsSeen n first all left now named → left ≡ [] → all ≡ boxes → first_failed (traf_groups_tests n first [] (groups_of boxes)) ≡ None
groups_first n first all left boxes now named s e f =
    ap (λ (bs : List Box). first_failed (traf_groups_tests n first [] (groups_of bs))) (sym f) ∙ s.names_first ∙ ap (λ (bs : List Box). first_failed (traf_groups_tests n first s.before (groups_of bs))) e

-- behind the last box
pub groups_sound : (n : ℕ) (first : List GroupKey) (all left boxes : List Box) (now : List GroupKey) (named : List Bool) → GroupsSeen n first all left now named → left ≡ [] → all ≡ boxes → AreGroupsSound n first [] (groups_of boxes)
groups_sound n first all left boxes now named s e f = subst (λ bs. AreGroupsSound n first [] (groups_of bs)) f (s.sound (subst (λ bs. AreGroupsSound n first s.before (groups_of bs)) (sym e) tt))

pub groups_keys : (n : ℕ) (first : List GroupKey) (all left boxes : List Box) (now : List GroupKey) (named : List Bool) → GroupsSeen n first all left now named → left ≡ [] → all ≡ boxes → now ≡ keys_after first (groupings_of (groups_of boxes))
groups_keys n first all left boxes now named s e f =
    let whole : groupings_of (groups_of all) ≡ s.before = s.groupings ∙ ap (λ bs. s.before ++ groupings_of (groups_of bs)) e ∙ append-nil s.before in
    s.names.keys_now ∙ ap (keys_after first) (sym whole) ∙ ap (λ bs. keys_after first (groupings_of (groups_of bs))) f
