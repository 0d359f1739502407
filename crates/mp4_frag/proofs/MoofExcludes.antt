-- A `moof` may be accepted exactly where no fault of it is the first.
use Rattle.std.proofs.Common.{◌≡◌, ℕ, ◌+◌, ◌-◌, ◌^◌, ◌<◌, ◌≤◌, ◌==◌, not, nat_lt, Bool, true, false, List, [], ◌∷◌, ◌++◌, length, map, take, Option, Some, None, Result, Ok, Err, inl, inr, refl, sym, ap, subst, ◌∙◌, arith, append_assoc, slice_set}
use Rattle.std.specs.Prelude.{ℤ, pos, codes, MatchResult, find, nat_le, IsTrue, unwrap_or, option_map, slice_get}
use Rattle.std.specs.List.{AllByRecursion}
use Rattle.std.proofs.lemmas.Bool.{and_parts, ltb-true}
use Rattle.mp4_boxes.specs.format.Box.{Box, box_container}
use Rattle.mp4_boxes.specs.format.BoxFaults.{fault_of}
use Rattle.mp4_boxes.specs.format.Children.{Holds, of_kind}
use Rattle.mp4_boxes.specs.format.FirstFault.{Test, first_failed, naming, leaf_tests, leaf_tests_with, children_or_fault}
use Rattle.mp4_boxes.specs.format.Layout.{Leaf, tfhd, tfdt, trun, sbgp, row_count, IsSound}
use Rattle.mp4_boxes.specs.format.Places.{ruled, AreSound}
use Rattle.mp4_boxes.specs.declared.rule.Rule.TheVariants as rules_of
use Rattle.mp4_boxes.specs.declared.fault.Fault.{Fault}
use Rattle.mp4_boxes.specs.declared.fault.Kind.{Kind}
use Rattle.mp4_boxes.specs.declared.fault.Kind.TheVariants.{BadDescriptionIndex, TooManySamples, SampleOutsideFile}
use Rattle.mp4_boxes.proofs.ChildrenJudged.{children_are, held_are}
use Rattle.mp4_boxes.proofs.Refusing.{unsound}
use Rattle.mp4_boxes.proofs.Sound.{sound_each}
use Rattle.mp4_boxes.proofs.Plain.{nat_le_yes, none_some, some_is, true_false}
use Rattle.mp4_tables.specs.format.FirstFault.{group_rules}
use Rattle.mp4_tables.specs.format.Groups.{GroupKey, Grouping, GroupRule, one_of_key, few_keys, index_range, group_counts, group_kind, group_test, grouping_of, groupings_of, keeps}
use Rattle.mp4_tables.specs.format.TableRules.{is_index}
use Rattle.mp4_tables.specs.words.Keys.{keys_seen}
use Rattle.mp4_tables.proofs.LeafJudged.{leaf_fails}
use Rattle.mp4_frag.specs.format.Fragments.{TrackFragment, AreTrafs, track_fragment_of, sample_run_of}
use Rattle.mp4_frag.specs.format.FragmentSamples.{part_samples, parts_after, base_of, run_start, run_samples, runs_samples, end_of_data, is_on_time, has_groups}
use Rattle.mp4_frag.specs.format.FragmentRules.{is_within}
use Rattle.mp4_frag.specs.words.Finding.{track_with}
use Rattle.mp4_frag.specs.words.FragmentTests.{one_run_tests, runs_tests, one_group_tests, traf_groups_tests}
use Rattle.mp4_frag.specs.words.GroupsJudged.{groups_in}
use Rattle.mp4_frag.specs.words.Judged.{own_trexes, IsAcceptable, IsPlacedWithin, AreTrafsSound, IsMovedOn, AreMovedOn, TrackSeen, track_seen, track_behind, part_with, end_with}
use Rattle.mp4_frag.specs.words.Passing.{is_late_at, within_from}
use Rattle.mp4_frag.specs.words.Reading.{inheritance}
use Rattle.mp4_frag.specs.words.RunsJudged.{children_of, runs_in, runs_total, run_begins, run_ends}
use Rattle.mp4_frag.specs.words.TrafFaults.{HoldsBoxes, traf_in}
use Rattle.mp4_frag.specs.words.TrafTests.{for_only, time_tests, late_tests, lacks, known_tests, track_tests, traf_fault, NamesFirst, TrafsFirst, MoofFirst}
use Rattle.mp4_frag.specs.words.Walks.{trex_among}
use Rattle.mp4_frag.specs.declared.state.TrackState.{TrackState}
use Rattle.mp4_frag.specs.declared.trex.Trex.{Trex}
use Rattle.mp4_frag.proofs.FirstRun.{behind_all}
use Rattle.mp4_frag.proofs.HeadsFound.{holds_children}
use Rattle.mp4_frag.proofs.MoofPassed.{known_first, moof_sound, same_trex}
use Rattle.mp4_frag.proofs.OwnTrexes.{Agree, own_agree}
use Rattle.mp4_frag.proofs.PartReasons.{part_counts, lacks_description, not_on_time}
use Rattle.mp4_frag.proofs.RunsPassed.{judged_by}
use Rattle.mp4_frag.proofs.RunsTied.{run_in}
use Rattle.mp4_frag.proofs.SamplesOfRows.{within_is, end_is}
use Rattle.mp4_frag.proofs.SeenLists.{IsFirst, find_map, first_seen, same_place, trex_kept}
use Rattle.mp4_frag.proofs.FirstTraf.{late_none}
use Rattle.mp4_tables.proofs.GroupWalks.{mapped_snoc}

no_test : {A : Type 0} (x : A) (o : Option A) → o ≡ None → o ≡ Some x → ⊥
no_test x o e f = none_some x (sym e ∙ f)

ok_err : {A B : Type 0} (x : A) (y : B) → Ok x ≡ Err y → ⊥
ok_err x y e = cc

-- ---- tests that pass

naming_pass : (b : Box) (tests : List (Test Kind)) → first_failed tests ≡ None → first_failed (naming b tests) ≡ None
naming_pass b [] e = refl
naming_pass b (t ∷ tests) e = by t.0 refl (λ f. naming_pass b tests f)
  where
    by : (v : Bool) → t.0 ≡ v → (first_failed tests ≡ None → first_failed (naming b tests) ≡ None) → first_failed (naming b (t ∷ tests)) ≡ None
    by true k on = let r = (rw k at e) in rw k (on r)
    by false k on = let r = (rw k at e) in absurd cc

-- a sound leaf that keeps what it keeps with others
sound_passes : (leaf : Leaf) (kept : List (Test Kind)) (payload : List ℕ) → IsSound leaf payload → first_failed kept ≡ None → first_failed (leaf_tests_with leaf kept payload) ≡ None
sound_passes leaf kept payload s e = by (first_failed (leaf_tests_with leaf kept payload)) refl
  where
    by : (o : Option Kind) → first_failed (leaf_tests_with leaf kept payload) ≡ o → first_failed (leaf_tests_with leaf kept payload) ≡ None
    by None f = f
    by (Some k) f = elim (leaf_fails leaf kept payload k f) [
      | inl fails ↦ absurd (unsound leaf payload k fails s)
      | inr later ↦ absurd (no_test k (first_failed kept) e later.1)
    ]

-- of the one box that there may be
only_passes : (tests : Box → List (Test Fault)) (boxes : List Box) → AllByRecursion (λ (b : Box). first_failed (tests b) ≡ None) boxes → first_failed (for_only tests boxes) ≡ None
only_passes tests [] h = refl
only_passes tests (b ∷ boxes) h = h.0

each_passes : (leaf : Leaf) (boxes : List Box) → AllByRecursion (λ (b : Box). IsSound leaf b.payload) boxes → AllByRecursion (λ (b : Box). first_failed (naming b (leaf_tests leaf b.payload)) ≡ None) boxes
each_passes leaf [] h = tt
each_passes leaf (b ∷ boxes) h = (naming_pass b (leaf_tests leaf b.payload) (sound_passes leaf [] b.payload h.0 refl), each_passes leaf boxes h.1)

runs_pass : (L : ℕ) (traf : TrackFragment) (trex : Trex) (base before : ℤ) (room : ℕ) (runs : List Box) → AllByRecursion (λ (b : Box). IsSound trun b.payload) runs → runs_total runs ≤ room
    → AllByRecursion (λ samples. IsTrue (is_within L samples)) (runs_samples trex traf base before (map run_in runs)) → first_failed (runs_tests (judged_by L (inheritance traf trex) base) before room runs) ≡ None
runs_pass L traf trex base before room [] s few p = refl
runs_pass L traf trex base before room (b ∷ runs) s few p =
    let run = sample_run_of b.payload in
    let at = run_start base before run.data_offset in
    let samples = run_samples trex traf run.first_sample_flags at run.rows in
    let judged = judged_by L (inheritance traf trex) base in
    let n = row_count trun b.payload in
    let within : within_from L judged.inherited.size (run_begins base before b.payload) run.rows ≡ true = sym (within_is L trex traf run.first_sample_flags at run.rows) ∙ p.0 in
    let fits : nat_le n room ≡ true = nat_le_yes n room (omega (arith, few)) in
    let rest : runs_total runs ≤ room - n = omega (arith, few) in
    let here = naming_pass b (one_run_tests judged before room b.payload) (sound_passes trun ((nat_le n room, TooManySamples) ∷ (within_from L judged.inherited.size (run_begins base before b.payload) run.rows, SampleOutsideFile) ∷ []) b.payload s.0 (rw (fits, within) refl)) in
    let later = runs_pass L traf trex base (end_of_data at samples) (room - n) runs s.1 rest p.1 in
    behind_all (naming b (one_run_tests judged before room b.payload)) (runs_tests judged (run_ends judged.inherited base before b.payload) (room - n) runs) None here
    (subst (λ (e : ℤ). first_failed (runs_tests judged e (room - n) runs) ≡ None) (end_is trex traf run.first_sample_flags at run.rows) later)

-- the test of an `sbgp` behind others is that of the list at its place
pub rule_at : (n : ℕ) (keys : List GroupKey) (gs : List Grouping) (rule : GroupRule) (k : ℕ) (g : Grouping) → slice_get gs k ≡ Some g → group_test rule n keys gs k ≡ keeps rule n keys (take k gs) g
rule_at n keys gs rule k g e = rw e refl

pub there : (front : List Box) (b : Box) (after : List Box) → slice_get (groupings_of (front ++ b ∷ after)) (length front) ≡ Some (grouping_of b.payload)
there [] b after = refl
there (c ∷ front) b after = there front b after

pub before_it : (front : List Box) (b : Box) (after : List Box) → take (length front) (groupings_of (front ++ b ∷ after)) ≡ groupings_of front
before_it [] b after = refl
before_it (c ∷ front) b after = ap (λ gs. grouping_of c.payload ∷ gs) (before_it front b after)

groups_pass : (n : ℕ) (keys : List GroupKey) (front groups : List Box) → AllByRecursion (λ (b : Box). IsSound sbgp b.payload) groups → ((rule : GroupRule) (k : ℕ) → IsTrue (group_test rule n keys (groupings_of (front ++ groups)) k))
    → first_failed (traf_groups_tests n keys (groupings_of front) groups) ≡ None
groups_pass n keys front [] s h = refl
groups_pass n keys front (b ∷ groups) s h =
    let g = grouping_of b.payload in
    let kept : (rule : GroupRule) → keeps rule n keys (groupings_of front) g ≡ true = λ rule.
    sym (rule_at n keys (groupings_of (front ++ b ∷ groups)) rule (length front) g (there front b groups) ∙ ap (λ gs. keeps rule n keys gs g) (before_it front b groups)) ∙ h rule (length front) in
    let own = sound_passes sbgp (map (λ rule. (keeps rule n keys (groupings_of front) g, group_kind rule)) group_rules) b.payload s.0 (rw (kept one_of_key, kept few_keys, kept index_range, kept group_counts) refl) in
    let later = groups_pass n keys (front ++ b ∷ []) groups s.1 (λ rule k. subst (λ (bs : List Box). IsTrue (group_test rule n keys (groupings_of bs) k)) (sym (append_assoc front (b ∷ []) groups)) (h rule k)) in
    behind_all (naming b (one_group_tests n keys (groupings_of front) b.payload)) (traf_groups_tests n keys (groupings_of front ++ g ∷ []) groups) None (naming_pass b (one_group_tests n keys (groupings_of front) b.payload) own)
    (subst (λ gs. first_failed (traf_groups_tests n keys gs groups) ≡ None) (mapped_snoc front b) later)

-- ---- one `traf`

module _ (L moof : ℕ) (before : ℤ) (now other new : List TrackState) (room less : ℕ) (b : Box) (alike : map track_seen other ≡ map track_seen now) (holds : HoldsBoxes b) (sound : AreSound (ruled rules_of.TrackFragment) (children_of b))
    (m : IsMovedOn moof before (children_of b) now new room less) (placed : IsPlacedWithin L (part_with moof before m.trex (traf_in b))) where
  -- its track in the other list
  found_alike : find (λ (s : TrackSeen). s.id == (traf_in b).id) (map track_seen other) ≡ Some (track_seen m.track)
  found_alike = ap (find (λ (s : TrackSeen). s.id == (traf_in b).id)) alike ∙ find_map track_seen (λ (s : TrackSeen). s.id == (traf_in b).id) now ∙ ap (option_map track_seen) m.found

  track_alike : (t : TrackState) → find (λ (s : TrackState). s.id == (traf_in b).id) other ≡ Some t → track_seen t ≡ track_seen m.track
  track_alike t found = some_is (track_seen t) (track_seen m.track) (sym (ap (option_map track_seen) found) ∙ sym (find_map track_seen (λ (s : TrackSeen). s.id == (traf_in b).id) other) ∙ found_alike)

  count : length (part_samples (part_with moof before m.trex (traf_in b))) ≡ runs_total (runs_in b)
  count = part_counts moof before m.trex (children_of b)

  described : (t : TrackState) → track_seen t ≡ track_seen m.track → lacks t (inheritance (traf_in b) m.trex).description (runs_total (runs_in b)) ≡ false
  described t same = by (lacks t (inheritance (traf_in b) m.trex).description (runs_total (runs_in b))) refl
    where
      d : ℕ
      d = (inheritance (traf_in b) m.trex).description

      n : ℕ
      n = runs_total (runs_in b)

      turned : (v : Bool) → not v ≡ true → v ≡ false
      turned true e = absurd cc
      turned false e = refl

      by : (v : Bool) → lacks t d n ≡ v → lacks t d n ≡ false
      by false e = e
      by true e =
          let both = and_parts (nat_lt 0 n) (not (is_index t.descriptions d)) e in
          let none = (λ i. is_index ((ap (λ (x : TrackSeen). x.descriptions) (sym same)) i) d) ∙ turned (is_index t.descriptions d) both.1 in
          absurd (true_false _ m.due.indexes (lacks_description (is_index m.track.descriptions) moof before m.trex (children_of b) (ltb-true 0 n both.0) none))

  on_time : (t : TrackState) → track_seen t ≡ track_seen m.track → is_late_at t (traf_in b).decode_time (runs_total (runs_in b)) ≡ false
  on_time t same = by (is_late_at t (traf_in b).decode_time (runs_total (runs_in b))) refl
    where
      by : (v : Bool) → is_late_at t (traf_in b).decode_time (runs_total (runs_in b)) ≡ v → is_late_at t (traf_in b).decode_time (runs_total (runs_in b)) ≡ false
      by false e = e
      by true e =
          let r = not_on_time moof before m.trex (children_of b) t e in
          let came : 0 < m.track.count = subst (λ n. 0 < n) (ap (λ (x : TrackSeen). x.count) same) r.0 in
          let due = subst (λ time. IsTrue (is_on_time time (part_with moof before m.trex (traf_in b)))) (sym (ap (λ (x : TrackSeen). x.time) same)) (m.due.time came) in
          absurd (true_false _ due r.1)

  -- what is tested behind its `tfhd`
  known_pass : (h : Box) (t : TrackState) → track_seen t ≡ track_seen m.track → first_failed (known_tests (judged_by L (inheritance (traf_in b) m.trex) (base_of moof before (traf_in b))) room b h t) ≡ None
  known_pass h t same =
      let base = base_of moof before (traf_in b) in
      let judged = judged_by L (inheritance (traf_in b) m.trex) base in
      let n = runs_total (runs_in b) in
      let times = of_kind (codes "tfdt") (children_of b) in
      let keys : keys_seen t.keys ≡ keys_seen m.track.keys = ap (λ (s : TrackSeen). s.keys) same in
      let few : runs_total (runs_in b) ≤ room = (let taken = m.taken in omega (arith, taken, count)) in
      let first = only_passes (λ d. naming d (leaf_tests tfdt d.payload)) times (each_passes tfdt times (sound_each (ruled rules_of.TrackFragment) (codes "tfdt") tfdt refl (children_of b) sound)) in
      let runs = runs_pass L (traf_in b) m.trex base base room (runs_in b) (sound_each (ruled rules_of.TrackFragment) (codes "trun") trun refl (children_of b) sound) few placed in
      let groups = groups_pass n (keys_seen t.keys) [] (groups_in b) (sound_each (ruled rules_of.TrackFragment) (codes "sbgp") sbgp refl (children_of b) sound) (λ rule k. subst (λ (j : ℕ). IsTrue (group_test rule j (keys_seen t.keys) (groupings_of (groups_in b)) k)) count
      (subst (λ ks. IsTrue (has_groups rule ks (part_with moof before m.trex (traf_in b)) k)) (sym keys) (m.due.groups rule k))) in
      let late = late_none t (traf_in b).decode_time n times (on_time t same) in
      let rest = behind_all (traf_groups_tests n (keys_seen t.keys) [] (groups_in b)) (late_tests t (traf_in b).decode_time n times) None groups late in
      behind_all (time_tests times) (runs_tests judged base room (runs_in b) ++ ((not (lacks t judged.inherited.description n), fault_of BadDescriptionIndex h) ∷ (traf_groups_tests n (keys_seen t.keys) [] (groups_in b) ++ late_tests t (traf_in b).decode_time n times))) None first
      (behind_all (runs_tests judged base room (runs_in b)) ((not (lacks t judged.inherited.description n), fault_of BadDescriptionIndex h) ∷ (traf_groups_tests n (keys_seen t.keys) [] (groups_in b) ++ late_tests t (traf_in b).decode_time n times)) None runs (rw (described t same) rest))

  track_pass : (h : Box) (o : Option TrackState) → find (λ (s : TrackState). s.id == (traf_in b).id) other ≡ o → first_failed (track_tests L moof before room b h o) ≡ None
  track_pass h None e = absurd (none_some (track_seen m.track) (sym (ap (option_map track_seen) e) ∙ sym (find_map track_seen (λ (s : TrackSeen). s.id == (traf_in b).id) other) ∙ found_alike))
  track_pass h (Some t) e =
      let same = track_alike t e in
      let defaults : t.trex ≡ Some m.trex = ap (λ (s : TrackSeen). s.trex) same ∙ m.defaults in
      rw defaults (known_pass h t same)

  -- no fault of it is the first
  traf_passes : traf_fault L moof before other room b ≡ None
  traf_passes =
      let listed = held_are rules_of.TrackFragment (box_container b) (children_of b) holds in
      rw listed (heads (of_kind (codes "tfhd") (children_of b)) (sound_each (ruled rules_of.TrackFragment) (codes "tfhd") tfhd refl (children_of b) sound))
    where
      heads : (hs : List Box) → AllByRecursion (λ (h : Box). IsSound tfhd h.payload) hs → first_failed (for_only (λ h. naming h (leaf_tests tfhd h.payload) ++ track_tests L moof before room b h (track_with (traf_in b).id other)) hs) ≡ None
      heads [] s = refl
      heads (h ∷ hs) s = behind_all (naming h (leaf_tests tfhd h.payload)) (track_tests L moof before room b h (track_with (traf_in b).id other)) None (naming_pass h (leaf_tests tfhd h.payload) (sound_passes tfhd [] h.payload s.0 refl)) (track_pass h (track_with (traf_in b).id other) refl)

-- ---- one after the other

pub same_some : (x y : Trex) → ◌≡◌ {A = Option Trex} (Some x) (Some y) → x ≡ y
same_some x y e = cc

same_room : (less rest n k room : ℕ) → less + n ≡ room → rest + k ≡ room → n ≡ k → less ≡ rest
same_room less rest n k room a b e = omega (arith, a, b, e)

-- the tracks and the room behind a `traf` are determined, as far as a clause sees them
moved_alike : (moof : ℕ) (before : ℤ) (boxes : List Box) (now other new later : List TrackState) (room less rest : ℕ) → map track_seen other ≡ map track_seen now → (m : IsMovedOn moof before boxes now new room less) (n : IsMovedOn moof before boxes other later room rest)
    → m.trex ≡ n.trex → track_seen n.track ≡ track_seen m.track → (map track_seen later ≡ map track_seen new) × (less ≡ rest)
moved_alike moof before boxes now other new later room less rest alike m n same track =
    let id = (track_fragment_of boxes).id in
    let first = first_seen id now m.place m.track m.found m.there m.first in
    let second = subst (λ ss. IsFirst id ss n.place (track_seen n.track)) alike (first_seen id other n.place n.track n.found n.there n.first) in
    let place = same_place id (map track_seen now) n.place m.place (track_seen n.track) (track_seen m.track) second first in (
      n.moved ∙ (λ i. slice_set (alike i) (place i) (track_behind (track i) (part_with moof before (sym same i) (track_fragment_of boxes)))) ∙ sym m.moved,
      same_room less rest _ _ room m.taken n.taken (ap (λ x. length (part_samples (part_with moof before x (track_fragment_of boxes)))) same),
    )

-- what is known of its track's defaults
known_by : (moof : ℕ) (before : ℤ) (boxes : List Box) (now new : List TrackState) (room less : ℕ) → (m : IsMovedOn moof before boxes now new room less) → trex_among now (track_fragment_of boxes).id ≡ Some m.trex
known_by moof before boxes now new room less m = ap (λ (o : Option TrackState). unwrap_or (option_map (λ (s : TrackState). s.trex) o) None) m.found ∙ m.defaults

-- by a list that agrees with the tracks, the parts begin with that of the track that moves on
pub next_part : (trexes : List Trex) (moof : ℕ) (before : ℤ) (boxes : List Box) (now new : List TrackState) (room less : ℕ) (more : List TrackFragment) → Agree trexes now → (m : IsMovedOn moof before boxes now new room less)
    → parts_after trexes moof before (track_fragment_of boxes ∷ more) ≡ part_with moof before m.trex (track_fragment_of boxes) ∷ parts_after trexes moof (end_with moof before m.trex (track_fragment_of boxes)) more
next_part trexes moof before boxes now new room less more h m =
    let same = h (track_fragment_of boxes).id m.trex (known_by moof before boxes now new room less m) moof before (track_fragment_of boxes) in
    λ i. sym same.0 i ∷ parts_after trexes moof (sym same.1 i) more

module _ (L moof : ℕ) (trexes : List Trex) where
  -- what is so of these `traf`s of a `moof` that may be accepted
  record MayPass (before : ℤ) (now after : List TrackState) (room less : ℕ) (trafs : List Box) : Type 0 where
    pub defaults : Agree trexes now
    pub held : AreTrafs trafs (map children_of trafs)
    pub leaves : AllByRecursion (AreSound (ruled rules_of.TrackFragment)) (map children_of trafs)
    pub placed : AllByRecursion (IsPlacedWithin L) (parts_after trexes moof before (map track_fragment_of (map children_of trafs)))
    pub moved : AreMovedOn moof before trafs now after room less

  -- so it is of the first of them, and of the others behind it
  first_placed : (before : ℤ) (now after : List TrackState) (room less : ℕ) (b : Box) (trafs : List Box) → (p : MayPass before now after room less (b ∷ trafs)) → IsPlacedWithin L (part_with moof before p.moved.2.0.trex (traf_in b))
  first_placed before now after room less b trafs p =
      (subst (AllByRecursion (IsPlacedWithin L)) (next_part trexes moof before (children_of b) now p.moved.0 room p.moved.1 (map track_fragment_of (map children_of trafs)) p.defaults p.moved.2.0) p.placed).0

  others : (before : ℤ) (now after : List TrackState) (room less : ℕ) (b : Box) (trafs : List Box) → (p : MayPass before now after room less (b ∷ trafs)) → MayPass (end_with moof before p.moved.2.0.trex (traf_in b)) p.moved.0 after p.moved.1 less trafs
  others before now after room less b trafs p =
      let m = p.moved.2.0 in
      record {
        defaults = λ id trex e. p.defaults id trex (sym (trex_kept id now p.moved.0 m.place m.track (part_with moof before m.trex (traf_in b)) m.there m.moved) ∙ e);
        held = p.held.1;
        leaves = p.leaves.1;
        placed = (subst (AllByRecursion (IsPlacedWithin L)) (next_part trexes moof before (children_of b) now p.moved.0 room p.moved.1 (map track_fragment_of (map children_of trafs)) p.defaults m) p.placed).1;
        moved = p.moved.2.1;
      }

  -- no fault of them is the first
  trafs_pass : (before : ℤ) (now after : List TrackState) (room less : ℕ) (trafs : List Box) → MayPass before now after room less trafs → TrafsFirst L moof before now room trafs None
  trafs_pass before now after room less [] p = refl
  trafs_pass before now after room less (b ∷ trafs) p =
      let m = p.moved.2.0 in
      let placed = first_placed before now after room less b trafs p in
      inr (
        end_with moof before m.trex (traf_in b),
        p.moved.0,
        p.moved.1,
        (
          traf_passes L moof before now now p.moved.0 room p.moved.1 b refl p.held.0 p.leaves.0 m placed,
          record {
            leaves = p.leaves.0;
            trex = m.trex;
            known = known_by moof before (children_of b) now p.moved.0 room p.moved.1 m;
            places = placed;
            groups = (keys_seen m.track.keys, m.due.groups);
            end = refl;
          },
          m,
          trafs_pass (end_with moof before m.trex (traf_in b)) p.moved.0 after p.moved.1 less trafs (others before now after room less b trafs p),
        ),
      )

  -- and none is, whatever tracks that look alike they are taken behind
  trafs_excluded : (f : Fault) (before : ℤ) (now other after : List TrackState) (room less : ℕ) (trafs : List Box) → map track_seen other ≡ map track_seen now → MayPass before now after room less trafs → TrafsFirst L moof before other room trafs (Some f) → ⊥
  trafs_excluded f before now other after room less [] alike p e = none_some f (sym e)
  trafs_excluded f before now other after room less (b ∷ trafs) alike p (inl (g, fails, same)) =
      no_test g _ (traf_passes L moof before now other p.moved.0 room p.moved.1 b alike p.held.0 p.leaves.0 p.moved.2.0 (first_placed before now after room less b trafs p)) fails
  trafs_excluded f before now other after room less (b ∷ trafs) alike p (inr (ends, between, rest, (none, t, n, fails))) =
      let m = p.moved.2.0 in
      let traf = traf_in b in
      let track = track_alike L moof before now other p.moved.0 room p.moved.1 b alike p.held.0 p.leaves.0 m (first_placed before now after room less b trafs p) n.track n.found in
      let same : m.trex ≡ n.trex = same_some m.trex n.trex (sym m.defaults ∙ sym (ap (λ (s : TrackSeen). s.trex) track) ∙ n.defaults) in
      let r = moved_alike moof before (children_of b) now other p.moved.0 between room p.moved.1 rest alike m n same track in
      let end : ends ≡ end_with moof before m.trex traf = t.end ∙ ap (λ x. end_with moof before x traf) (same_trex L moof before ends (children_of b) other between room rest t n ∙ sym same) in
      trafs_excluded f (end_with moof before m.trex traf) p.moved.0 between after p.moved.1 less trafs r.0 (others before now after room less b trafs p)
      (subst (λ (e : ℤ). TrafsFirst L moof e between p.moved.1 trafs (Some f)) end (subst (λ (k : ℕ). TrafsFirst L moof ends between k trafs (Some f)) (sym r.1) fails))

-- ---- the whole `moof`

may_pass : (L : ℕ) (tracks : List TrackState) (room : ℕ) (moof : Box) → (a : IsAcceptable L tracks room moof) → MayPass L moof.offset (own_trexes tracks) (pos moof.offset) tracks a.after room a.less (of_kind (codes "traf") (children_of moof))
may_pass L tracks room moof a = record { defaults = own_agree tracks; held = a.sound.tree.trafs; leaves = a.sound.leaves; placed = a.sound.places; moved = a.moved }

-- what may be accepted has no fault
moof_passes : (L : ℕ) (tracks : List TrackState) (room : ℕ) (moof : Box) → IsAcceptable L tracks room moof → MoofFirst L tracks room moof None
moof_passes L tracks room moof a =
    inr (held_are rules_of.MovieFragment (box_container moof) (children_of moof) a.sound.tree.children, trafs_pass L moof.offset (own_trexes tracks) (pos moof.offset) tracks a.after room a.less (of_kind (codes "traf") (children_of moof)) (may_pass L tracks room moof a))

moof_excluded : (L : ℕ) (tracks : List TrackState) (room : ℕ) (moof : Box) (f : Fault) → MoofFirst L tracks room moof (Some f) → IsAcceptable L tracks room moof → ⊥
moof_excluded L tracks room moof f (inl (g, fails, same)) a = ok_err (children_of moof) g (sym (held_are rules_of.MovieFragment (box_container moof) (children_of moof) a.sound.tree.children) ∙ fails)
moof_excluded L tracks room moof f (inr (listed, h)) a = trafs_excluded L moof.offset (own_trexes tracks) f (pos moof.offset) tracks tracks a.after room a.less (of_kind (codes "traf") (children_of moof)) refl (may_pass L tracks room moof a) h

-- a `traf` without a fault has the boxes of the profile
listed_none : (L moof : ℕ) (before : ℤ) (tracks : List TrackState) (room : ℕ) (b : Box) → traf_fault L moof before tracks room b ≡ None → HoldsBoxes b
listed_none L moof before tracks room b none = by (children_or_fault rules_of.TrackFragment (box_container b)) refl
  where
    by : (r : _) → children_or_fault rules_of.TrackFragment (box_container b) ≡ r → HoldsBoxes b
    by (Err f) e = let k = rw e at none in absurd (none_some f (sym k))
    by (Ok boxes) e =
        let h = children_are rules_of.TrackFragment (box_container b) boxes e in
        subst (λ (bs : List Box). Holds rules_of.TrackFragment (box_container b) bs) (holds_children rules_of.TrackFragment b boxes h) h

-- the same `traf`s by what was known first
all_known_first : (L moof : ℕ) (before : ℤ) (first tracks : List TrackState) (trafs : List Box) → ((id : ℕ) → trex_among tracks id ≡ trex_among first id) → AreTrafsSound L moof before tracks trafs → AreTrafsSound L moof before first trafs
all_known_first L moof before first tracks [] same s = tt
all_known_first L moof before first tracks (b ∷ trafs) same s = (s.0, (s.1.0, known_first L moof before s.1.0 first tracks (children_of b) same s.1.1, all_known_first L moof s.1.0 first tracks trafs same s.1.2))

-- where no fault is the first, each `traf` is sound, and the tracks are moved on by all
none_first : (L moof : ℕ) (before : ℤ) (tracks : List TrackState) (room : ℕ) (trafs : List Box) → TrafsFirst L moof before tracks room trafs None → (after : List TrackState) × (less : ℕ) × (AreTrafsSound L moof before tracks trafs × AreMovedOn moof before trafs tracks after room less)
none_first L moof before tracks room [] e = (tracks, room, (tt, (refl, refl)))
none_first L moof before tracks room (b ∷ trafs) (inl (f, fails, same)) = absurd (none_some f same)
none_first L moof before tracks room (b ∷ trafs) (inr (ends, between, rest, (none, t, m, more))) =
    let later = none_first L moof ends between rest trafs more in
    let end : ends ≡ end_with moof before m.trex (traf_in b) = t.end ∙ ap (λ x. end_with moof before x (traf_in b)) (same_trex L moof before ends (children_of b) tracks between room rest t m) in
    let same : (id : ℕ) → trex_among between id ≡ trex_among tracks id = λ id. trex_kept id tracks between m.place m.track (part_with moof before m.trex (traf_in b)) m.there m.moved in (
      later.0,
      later.1,
      (
        (listed_none L moof before tracks room b none, (ends, t, all_known_first L moof ends tracks between trafs same later.2.0)),
        (between, rest, (m, subst (λ (e : ℤ). AreMovedOn moof e trafs between later.0 rest later.1) end later.2.1)),
      ),
    )

-- where none is the first of a `moof`, it may be accepted
moof_accepted : (L : ℕ) (tracks : List TrackState) (room : ℕ) (moof : Box) → L < 2 ^ 64 → MoofFirst L tracks room moof None → IsAcceptable L tracks room moof
moof_accepted L tracks room moof short (inl (f, fails, same)) = absurd (none_some f same)
moof_accepted L tracks room moof short (inr (listed, h)) =
    let r = none_first L moof.offset (pos moof.offset) tracks room (of_kind (codes "traf") (children_of moof)) h in
    record {
      sound = moof_sound (own_trexes tracks) L moof tracks short (children_are rules_of.MovieFragment (box_container moof) (children_of moof) listed) r.2.0 (own_agree tracks);
      after = r.0;
      less = r.1;
      moved = r.2.1;
    }

-- no fault of a `moof` is the first exactly where it may be accepted; where one is, it may not
pub record MoofDecided (file_length : ℕ) (tracks : List TrackState) (room : ℕ) (moof : Box) : Type 0 where
  pub accepted : MoofFirst file_length tracks room moof None → IsAcceptable file_length tracks room moof
  pub none : IsAcceptable file_length tracks room moof → MoofFirst file_length tracks room moof None
  pub some : (f : Fault) → MoofFirst file_length tracks room moof (Some f) → IsAcceptable file_length tracks room moof → ⊥

pub moof_decided : (file_length : ℕ) (tracks : List TrackState) (room : ℕ) (moof : Box) → file_length < 2 ^ 64 → MoofDecided file_length tracks room moof
moof_decided file_length tracks room moof short = record { accepted = moof_accepted file_length tracks room moof short; none = moof_passes file_length tracks room moof; some = moof_excluded file_length tracks room moof }

-- so it is by an answer that names its first fault
pub decided_by : {T : Type 0} (file_length : ℕ) (tracks : List TrackState) (room : ℕ) (moof : Box) → file_length < 2 ^ 64 → (result : Result T Fault) → NamesFirst (MoofFirst file_length tracks room moof) result
    → MatchResult result (λ v. IsAcceptable file_length tracks room moof) (λ f. IsAcceptable file_length tracks room moof → ⊥)
decided_by file_length tracks room moof short (Ok v) first = (moof_decided file_length tracks room moof short).accepted first.names
decided_by file_length tracks room moof short (Err f) first = (moof_decided file_length tracks room moof short).some f first.names
