-- What is so of a `traf` where its tests pass: it is sound, its part keeps the rules, and there is room for its samples.
use Rattle.std.proofs.Common.{◌≡◌, ℕ, ◌+◌, ◌≤◌, ◌==◌, ◌||◌, Bool, true, false, List, [], ◌∷◌, ◌++◌, length, Option, Some, None, refl, sym, ap, subst, ◌∙◌, arith}
use Rattle.std.specs.Prelude.{ℤ, codes, bytes_eq, is_some, not, option_map, unwrap_or}
use Rattle.std.specs.List.{AllByRecursion}
use Rattle.std.proofs.lemmas.Bool.{and_parts}
use Rattle.std.proofs.lemmas.List.{length-map}
use Rattle.mp4_boxes.specs.format.Box.{Box, Container}
use Rattle.mp4_boxes.specs.format.Children.{Holds, of_kind, is_among, count_among}
use Rattle.mp4_boxes.specs.format.Layout.{Leaf, tfhd, tfdt, trun, sbgp, IsSound}
use Rattle.mp4_boxes.specs.format.Places.{ruled, leaf_of, leaves, IsSoundAs, AreSound}
use Rattle.mp4_boxes.specs.format.FirstFault.{Test, first_failed, naming, leaf_tests}
use Rattle.mp4_boxes.specs.declared.rule.Rule.TheVariants as rules
use Rattle.mp4_boxes.specs.declared.fault.Fault.{Fault}
use Rattle.mp4_boxes.specs.declared.fault.Kind.TheVariants.{UnknownTrack, BadDescriptionIndex, Gap}
use Rattle.mp4_boxes.proofs.Among.{count-append}
use Rattle.mp4_boxes.proofs.Refusing.{holds_only, holds_few}
use Rattle.mp4_boxes.proofs.Sound.{same_kind}
use Rattle.mp4_boxes.proofs.Plain.{or_true}
use Rattle.mp4_tables.specs.format.Groups.{GroupKey, grouping_of}
use Rattle.mp4_tables.specs.format.FirstFault.{first_box_tests}
use Rattle.mp4_tables.proofs.AmongTypes.{AllAmong, IsFirstAmong, first_among, FoundAs, found_as, none_among, first_is_each, among_both, all_read, only_type, kind_among}
use Rattle.mp4_tables.proofs.InOrder.{both_pass, named_pass, one_passes}
use Rattle.mp4_tables.proofs.LeafJudged.{leaf_passes}
use Rattle.mp4_tables.proofs.LeafLists.{payload_none}
use Rattle.mp4_frag.specs.declared.trex.Trex.{Trex}
use Rattle.mp4_frag.specs.format.Fragments.{track_fragment_of, sample_run_of, decode_time_of}
use Rattle.mp4_frag.specs.format.FragmentSamples.{Part, part_samples, has_samples, base_of, is_on_time, has_groups, trex_for}
use Rattle.mp4_frag.specs.format.FragmentRules.{TrackFacts, track_for, is_known, has_indexes}
use Rattle.mp4_frag.specs.words.Judged.{part_with}
use Rattle.mp4_frag.proofs.PartReasons.{part_counts}
use Rattle.mp4_frag.proofs.SeenLists.{find_map}
use Rattle.mp4_head.specs.format.Tree.{TrackTree, MovieTree, first_of, trexes_of}
use Rattle.mp4_head.proofs.Inside.{first_is}
use Rattle.mp4_present.specs.format.Denotes.{track_infos}
use Rattle.mp4_present.specs.format.Judge.{Passed, track_at, is_due_time, named_keys, run_tests, group_boxes_tests, traf_tests}
use Rattle.mp4_present.proofs.PartsBehind.{id_of}
use Rattle.mp4_present.proofs.PartsKept.{IsKept, due_behind}
use Rattle.mp4_present.proofs.RunsPassed.{as_many_runs, runs_pass, groups_pass}

-- how a box of a `traf` is sound
abbrev pub SoundBox : Box → Type 0
SoundBox b = IsSoundAs (leaf_of (ruled rules.TrackFragment) b.kind) b.payload

-- a box of a type, as the leaf of that type
pub sound_box : (kind : List ℕ) (leaf : Leaf) (b : Box) → leaf_of (ruled rules.TrackFragment) kind ≡ Some leaf → bytes_eq kind b.kind ≡ true → IsSound leaf b.payload → SoundBox b
sound_box kind leaf b e k s = subst (λ (o : Option Leaf). IsSoundAs o b.payload) (sym (ap (leaf_of (ruled rules.TrackFragment)) (same_kind kind b.kind k) ∙ e)) s

-- all boxes of a type
pub sound_kind : (kind : List ℕ) (leaf : Leaf) (boxes : List Box) → leaf_of (ruled rules.TrackFragment) kind ≡ Some leaf → AllByRecursion (λ (b : Box). IsSound leaf b.payload) (of_kind kind boxes) → AllAmong (kind ∷ []) SoundBox boxes
sound_kind kind leaf boxes e h = turned boxes (kind_among kind (λ (b : Box). IsSound leaf b.payload) boxes h)
  where
    turned : (bs : List Box) → AllAmong (kind ∷ []) (λ (b : Box). IsSound leaf b.payload) bs → AllAmong (kind ∷ []) SoundBox bs
    turned [] h = tt
    turned (b ∷ bs) h = ((λ m. sound_box kind leaf b e (only_type kind b.kind m) (h.0 m)), turned bs h.1)

-- the first box of a type of which one stands
pub only_first : (kind : List ℕ) (boxes : List Box) → count_among (kind ∷ []) boxes ≡ 1 → IsFirstAmong (kind ∷ []) boxes (first_of kind boxes)
only_first kind boxes n =
    let b = first_of kind boxes in
    let i = first_is kind boxes n in
    let type = i.1 in
    let among : is_among (kind ∷ []) b.kind ≡ true = ap (λ (v : Bool). v || false) type in
    let here : count_among (kind ∷ []) (b ∷ i.0.after) ≡ 1 + count_among (kind ∷ []) i.0.after = rw type refl in
    record { before = i.0.before; after = i.0.after; is = i.0.is; among = among; none = omega (arith, n, ap (count_among (kind ∷ [])) i.0.is, count-append (kind ∷ []) i.0.before (b ∷ i.0.after), here) }

-- a track of which there are facts is found
pub track_found : (movie : MovieTree) (id : ℕ) → is_some (track_for (track_infos movie) id) ≡ true → (t : TrackTree) × (track_at movie id ≡ Some t)
track_found movie id e = by (track_at movie id) refl
  where
    info : TrackTree → TrackFacts
    info t = record { id = id_of t; descriptions = length t.descriptions }

    by : (o : Option TrackTree) → track_at movie id ≡ o → (t : TrackTree) × (track_at movie id ≡ Some t)
    by (Some t) g = (t, g)
    by None g =
        let none : track_for (track_infos movie) id ≡ None = find_map info (λ (i : TrackFacts). i.id == id) movie.tracks ∙ ap (option_map info) g in
        let no : false ≡ true = sym (ap is_some none) ∙ e in
        absurd cc

-- a part that says no time is on time
untimed : (due : ℕ) (part : Part) → part.decode_time ≡ None → is_on_time due part ≡ true
untimed due part e = ap (λ (o : Option ℕ). not (has_samples part) || unwrap_or (option_map (λ (time : ℕ). time == due) o) true) e ∙ or_true (not (has_samples part))

-- What is so of a `traf` whose tests pass: its leaves are sound, its part keeps the rules, and there is room for its samples.
pub record TrafPasses (file : List ℕ) (movie : MovieTree) (passed : Passed) (part : Part) (inside : List Box) : Type 0 where
  pub sound : AreSound (ruled rules.TrackFragment) inside
  pub kept : IsKept file movie passed.parts part
  pub few : length (part_samples part) ≤ passed.room

module _ (file : List ℕ) (movie : MovieTree) (passed : Passed) (inside : List Box) (c : Container) (holds : Holds rules.TrackFragment c inside) (at : ℕ) (p : ℤ) (trex : Trex) where
  abbrev part : Part
  part = part_with at p trex (track_fragment_of inside)

  abbrev head : Box
  head = first_of (codes "tfhd") inside

  abbrev track : Option TrackTree
  track = track_at movie part.id

  abbrev times : (Box → List (Test Fault)) → List (Test Fault)
  times tests = first_box_tests (codes "tfdt" ∷ []) inside tests

  abbrev T : List (Test Fault)
  T = naming head (leaf_tests tfhd head.payload ++ (is_known (track_infos movie) (trexes_of movie) part, UnknownTrack) ∷ [])

  abbrev M : List (Test Fault)
  M = times (λ (b : Box). naming b (leaf_tests tfdt b.payload))

  abbrev U : List (Test Fault)
  U = run_tests (length file) passed.room part.runs (of_kind (codes "trun") inside)

  abbrev X : List (Test Fault)
  X = naming head ((has_indexes (track_infos movie) part, BadDescriptionIndex) ∷ [])

  abbrev B : List (Test Fault)
  B = group_boxes_tests (length (part_samples part)) (named_keys passed.parts part track) part 0 (of_kind (codes "sbgp") inside)

  abbrev L : List (Test Fault)
  L = times (λ (b : Box). naming b ((is_due_time passed.parts part track, Gap) ∷ []))

  one_head : count_among (codes "tfhd" ∷ []) inside ≡ 1
  one_head = holds_only holds (codes "tfhd") refl

  few_times : count_among (codes "tfdt" ∷ []) inside ≤ 1
  few_times = holds_few holds (codes "tfdt") refl

  -- the `tfhd` is sound, and its track is known
  pub head_passes : first_failed T ≡ None → IsSound tfhd head.payload × (is_known (track_infos movie) (trexes_of movie) part ≡ true)
  head_passes e =
      let q = both_pass (leaf_tests tfhd head.payload) ((is_known (track_infos movie) (trexes_of movie) part, UnknownTrack) ∷ []) (named_pass head (leaf_tests tfhd head.payload ++ (is_known (track_infos movie) (trexes_of movie) part, UnknownTrack) ∷ []) e) in
      ((leaf_passes tfhd [] head.payload q.0).0, one_passes (is_known (track_infos movie) (trexes_of movie) part) UnknownTrack q.1)

  -- as the only box of its type
  pub heads_sound : IsSound tfhd head.payload → AllAmong (codes "tfhd" ∷ []) SoundBox inside
  heads_sound s =
      let i = only_first (codes "tfhd") inside one_head in
      first_is_each (codes "tfhd" ∷ []) SoundBox inside head i (omega (arith, one_head)) (sound_box (codes "tfhd") tfhd head refl (only_type (codes "tfhd") head.kind i.among) s)

  time_there : (tests : Box → List (Test Fault)) (b : Box) → first_among (codes "tfdt" ∷ []) inside ≡ Some b → times tests ≡ tests b
  time_there tests b e = rw e refl

  -- the `tfdt` is sound, if there is one
  pub times_sound : first_failed M ≡ None → AllAmong (codes "tfdt" ∷ []) SoundBox inside
  times_sound e = by (first_among (codes "tfdt" ∷ []) inside) refl (found_as (codes "tfdt" ∷ []) inside)
    where
      by : (o : Option Box) → first_among (codes "tfdt" ∷ []) inside ≡ o → FoundAs (codes "tfdt" ∷ []) inside o → AllAmong (codes "tfdt" ∷ []) SoundBox inside
      by None g h = none_among (codes "tfdt" ∷ []) SoundBox inside h
      by (Some b) g h =
          let own = leaf_passes tfdt [] b.payload (named_pass b (leaf_tests tfdt b.payload) (sym (ap first_failed (time_there (λ (x : Box). naming x (leaf_tests tfdt x.payload)) b g)) ∙ e)) in
          first_is_each (codes "tfdt" ∷ []) SoundBox inside b h few_times (sound_box (codes "tfdt") tfdt b refl (only_type (codes "tfdt") b.kind h.among) own.0)

  -- it is the time that is due
  pub on_time : (t : TrackTree) → track ≡ Some t → first_failed L ≡ None → is_on_time (due_behind t passed.parts part) part ≡ true
  on_time t k e = by (first_among (codes "tfdt" ∷ []) inside) refl (found_as (codes "tfdt" ∷ []) inside)
    where
      by : (o : Option Box) → first_among (codes "tfdt" ∷ []) inside ≡ o → FoundAs (codes "tfdt" ∷ []) inside o → is_on_time (due_behind t passed.parts part) part ≡ true
      by None g h = untimed (due_behind t passed.parts part) part (ap (option_map decode_time_of) (payload_none (codes "tfdt") inside h))
      by (Some b) g h =
          let due = one_passes (is_due_time passed.parts part track) Gap (named_pass b ((is_due_time passed.parts part track, Gap) ∷ []) (sym (ap first_failed (time_there (λ (x : Box). naming x ((is_due_time passed.parts part track, Gap) ∷ [])) b g)) ∙ e)) in
          sym (ap (is_due_time passed.parts part) k) ∙ due

  -- as many lists of samples as runs, and groupings as `sbgp`s
  pub runs_many : length part.runs ≡ length (of_kind (codes "trun") inside)
  runs_many = as_many_runs trex (track_fragment_of inside) (base_of at p (track_fragment_of inside)) (base_of at p (track_fragment_of inside)) (track_fragment_of inside).runs ∙ length-map (of_kind (codes "trun") inside) (λ (b : Box). sample_run_of b.payload)

  pub groups_many : length part.groups ≡ length (of_kind (codes "sbgp") inside)
  groups_many = length-map (of_kind (codes "sbgp") inside) (λ (b : Box). grouping_of b.payload)

  -- where no test fails
  pub traf_passes : first_failed (traf_tests (length file) movie passed part inside) ≡ None → TrafPasses file movie passed part inside
  traf_passes e =
      let p5 = both_pass ((((T ++ M) ++ U) ++ X) ++ B) L e in
      let p4 = both_pass (((T ++ M) ++ U) ++ X) B p5.0 in
      let p3 = both_pass ((T ++ M) ++ U) X p4.0 in
      let p2 = both_pass (T ++ M) U p3.0 in
      let p1 = both_pass T M p2.0 in
      let first = head_passes p1.0 in
      let t = track_found movie part.id (and_parts (is_some (track_for (track_infos movie) part.id)) (is_some (trex_for (trexes_of movie) part.id)) first.1).0 in
      let runs = runs_pass (length file) passed.room part.runs (of_kind (codes "trun") inside) runs_many p2.1 in
      let groups = groups_pass (length (part_samples part)) (named_keys passed.parts part track) part 0 (of_kind (codes "sbgp") inside) (omega (arith, groups_many)) p4.1 in
      let indexes = one_passes (has_indexes (track_infos movie) part) BadDescriptionIndex (named_pass head ((has_indexes (track_infos movie) part, BadDescriptionIndex) ∷ []) p3.1) in
      let few = runs.few in
      let count = part_counts at p trex inside in
      let behind = among_both (codes "trun" ∷ []) (codes "sbgp" ∷ []) SoundBox inside (sound_kind (codes "trun") trun inside refl runs.sound) (sound_kind (codes "sbgp") sbgp inside refl groups.0) in
      let timed = among_both (codes "tfdt" ∷ []) (codes "trun" ∷ codes "sbgp" ∷ []) SoundBox inside (times_sound p1.1) behind in
      record {
        sound = all_read (leaves (ruled rules.TrackFragment)) inside (among_both (codes "tfhd" ∷ []) (codes "tfdt" ∷ codes "trun" ∷ codes "sbgp" ∷ []) SoundBox inside (heads_sound first.0) timed);
        kept = record {
          track = t.0;
          found = t.1;
          known = first.1;
          indexes = indexes;
          places = runs.within;
          groups = λ rule k. subst (λ (keys : List GroupKey). has_groups rule keys part k ≡ true) (ap (named_keys passed.parts part) t.1) (groups.1 rule k (omega arith));
          time = on_time t.0 t.1 p5.1;
        };
        few = omega (arith, few, count);
      }
