-- A fault that is named in a `traf` behind all that is as it should be stands in the file.
use Rattle.std.proofs.Common.{◌≡◌, ℕ, suc, ◌+◌, ◌-◌, ◌<◌, ◌≤◌, ◌==◌, Bool, true, false, List, [], ◌∷◌, ◌++◌, length, take, Option, Some, None, inl, inr, refl, sym, ap, subst, ◌∙◌, arith, append_assoc}
use Rattle.std.specs.Prelude.{codes, is_some, unwrap_or, slice_get}
use Rattle.std.specs.List.{AllByRecursion}
use Rattle.std.proofs.lemmas.Bool.{and_parts, eqb-true}
use Rattle.mp4_boxes.specs.format.Box.{Box, box_container}
use Rattle.mp4_boxes.specs.format.BoxFaults.{IsChildFault, fault_of}
use Rattle.mp4_boxes.specs.format.Children.{Holds, of_kind, count_among}
use Rattle.mp4_boxes.specs.format.Layout.{Leaf, tfhd, tfdt, trun, sbgp, row_count, IsReadable, IsSound}
use Rattle.mp4_boxes.specs.format.Places.{ruled, whole, inside, leaf_of, Reaches}
use Rattle.mp4_boxes.specs.format.FirstFault.{Test, first_failed, naming, leaf_tests}
use Rattle.mp4_boxes.specs.declared.rule.Rule.TheVariants as rules
use Rattle.mp4_boxes.specs.declared.fault.Fault.{Fault}
use Rattle.mp4_boxes.specs.declared.fault.Kind.{Kind}
use Rattle.mp4_boxes.specs.declared.fault.Kind.TheVariants.{UnknownTrack, BadDescriptionIndex, SampleOutsideFile, Gap}
use Rattle.mp4_boxes.proofs.Among.{count-append, first_there, none_counted}
use Rattle.mp4_boxes.proofs.Each.{each_weaker}
use Rattle.mp4_boxes.proofs.Refusing.{holds_only, holds_few}
use Rattle.mp4_boxes.proofs.Sound.{same_kind}
use Rattle.mp4_tables.specs.format.Groups.{GroupRule, one_of_key, few_keys, index_range, group_counts, group_kind, group_reads}
use Rattle.mp4_tables.specs.format.TableRules.{GroupsReadable}
use Rattle.mp4_tables.specs.format.FirstFault.{first_box_tests}
use Rattle.mp4_tables.proofs.AmongTypes.{IsFirstAmong, first_among, FoundAs, found_as, only_type}
use Rattle.mp4_tables.proofs.GroupWalks.{found_there, taken_with, groups_readable}
use Rattle.mp4_tables.proofs.InOrder.{both_pass, either_fails, named_kind, named_pass, one_fails}
use Rattle.mp4_tables.proofs.LeafJudged.{leaf_passes, leaf_fails}
use Rattle.mp4_frag.specs.format.Fragments.{FragmentTree, IsFragmentTree, AreTrafs, track_fragment_of}
use Rattle.mp4_frag.specs.format.FragmentSamples.{Part, part_samples, has_groups, keys_behind, parts_for, trex_for}
use Rattle.mp4_frag.specs.format.FragmentRules.{is_known, has_indexes, track_for}
use Rattle.mp4_frag.specs.words.Judged.{part_with}
use Rattle.mp4_head.proofs.Above.{stands_of}
use Rattle.mp4_head.specs.format.Tree.{TrackTree, MovieTree, first_of, trexes_of}
use Rattle.mp4_present.specs.format.Denotes.{IsSoundFragment, plain_keys, track_infos}
use Rattle.mp4_present.specs.format.Judge.{Passed, track_at, is_due_time, named_keys, run_tests, group_boxes_tests, traf_tests, last_part}
use Rattle.mp4_present.specs.format.Presentation.{max_samples}
use Rattle.mp4_present.specs.format.Stands.{Stands, leaf as of_leaf, fragment, count, Behind, parts_with, AreConsistent, FragmentRule, unknown_track, description_index, place, fragment_group, decode_time, AreSoundOf, RunsReadable, LeavesReadable, KnownFor, PartFails, fragment_fault, run_total, trafs_total}
use Rattle.mp4_present.specs.words.Passing.{IsMovieOf, IsNextMoof, parts_behind}
use Rattle.mp4_present.proofs.JudgedFragments.{AreReached}
use Rattle.mp4_present.proofs.MoofBehind.{counted}
use Rattle.mp4_present.proofs.PartsBehind.{id_of}
use Rattle.mp4_present.proofs.PartsLast.{parts_in, trex_of_part, last_is}
use Rattle.mp4_present.proofs.PlainLists.{all_push}
use Rattle.mp4_present.proofs.RunsFail.{FailsAs, ManyIn, OutsideIn, FailingRun, runs_fail, Breaks, FailingGroup, groups_fail}
use Rattle.mp4_present.proofs.RunsPassed.{runs_pass}
use Rattle.mp4_present.proofs.TrafJudged.{only_first, track_found, head_passes, runs_many}
use Rattle.mp4_present.proofs.TrafPlaces.{place_of, kept, moof_reached, child_stands, sound_of}
use Rattle.mp4_present.proofs.FirstKept.{first_kept}
use Rattle.mp4_present.proofs.FaultGaps.{found_there as contains_found}
use Rattle.mp4_tables.proofs.Sums.{sum_joined}
use Rattle.mp4_frag.proofs.SeenLists.{found_passes}

-- ---- boxes of a type

-- where at most one box of a type stands, it is all of that type
pub only_of_kind : (kind : List ℕ) (boxes : List Box) (b : Box) → IsFirstAmong (kind ∷ []) boxes b → count_among (kind ∷ []) boxes ≤ 1 → of_kind kind boxes ≡ b ∷ []
only_of_kind kind boxes b i n =
    let type = only_type kind b.kind i.among in
    let here : count_among (kind ∷ []) (b ∷ i.after) ≡ 1 + count_among (kind ∷ []) i.after = rw type refl in
    let others : count_among (kind ∷ []) i.after ≡ 0 = omega (arith, n, i.none, ap (count_among (kind ∷ [])) i.is, count-append (kind ∷ []) i.before (b ∷ i.after), here) in
    first_there kind boxes b (record { before = i.before; after = i.after; is = i.is }) type n ∙ ap (λ (bs : List Box). b ∷ bs) (none_counted kind i.after others)

-- ---- the context

-- A `traf` stands in a `moof` of the file behind others; all before it is as it should be, and this is what comes of it.
pub record IsUnder (file : List ℕ) (movie : MovieTree) (earlier : List FragmentTree) (before : List Box) (moof : Box) (children done : List Box) (b : Box) (later : List Box) (insides : List (List Box)) (passed : Passed) : Type 0 where
  pub movie_is : IsMovieOf file movie
  pub next : IsNextMoof file movie earlier before moof
  pub trees : AllByRecursion IsFragmentTree earlier
  pub sound : AllByRecursion IsSoundFragment earlier
  pub holds : Holds rules.MovieFragment (box_container moof) children
  pub trafs : of_kind (codes "traf") children ≡ done ++ b ∷ later
  pub held : AreTrafs done insides
  pub reached : AreReached file movie earlier moof.offset insides passed

module _ (file : List ℕ) (movie : MovieTree) (earlier : List FragmentTree) (before : List Box) (moof : Box) (children done : List Box) (b : Box) (later : List Box) (insides : List (List Box)) (passed : Passed)
    (u : IsUnder file movie earlier before moof children done b later insides passed) (f : Fault) where
  -- the `traf` is in the file
  traf_there : Reaches (whole file) (place_of rules.TrackFragment b)
  traf_there =
      let k = kept (codes "traf") children done b later u.trafs in
      let r = moof_reached file before moof u.next.stands u.next.is_moof in
      let type = k.of_it in
      let in_moof : inside (place_of rules.MovieFragment moof) b ≡ Some (place_of rules.TrackFragment b) = rw type refl in
      let in_file : inside (whole file) moof ≡ Some (place_of rules.MovieFragment moof) = let e = u.next.is_moof in rw e refl in
      (moof ∷ b ∷ [], (before, u.next.stands, place_of rules.MovieFragment moof, in_file, (k.before, stands_of moof children k.before k.after b u.holds.tiles k.are, place_of rules.TrackFragment b, in_moof, refl)))

  -- a fault of its children
  pub children_stand : IsChildFault rules.TrackFragment (box_container b) f → Stands file f
  children_stand q = child_stands file rules.TrackFragment b f traf_there q

  module _ (boxes : List Box) (inner : Holds rules.TrackFragment (box_container b) boxes) where
    -- a fault of one of its leaves
    leaf_stands : (type : List ℕ) (leaf : Leaf) → leaf_of (ruled rules.TrackFragment) type ≡ Some leaf → (front : List Box) (h : Box) (after : List Box) → of_kind type boxes ≡ front ++ h ∷ after → FailsAs leaf h f → Stands file f
    leaf_stands type leaf e front h after are q =
        let k = kept type boxes front h after are in (
          of_leaf,
          inl (record {
            place = place_of rules.TrackFragment b;
            before = k.before;
            b = h;
            stands = record { reaches = traf_there; after = stands_of b boxes k.before k.after h inner.tiles k.are };
            leaf = leaf;
            read = ap (leaf_of (ruled rules.TrackFragment)) (same_kind type h.kind k.of_it) ∙ e;
            kind = q.kind;
            fails = q.fails;
            named = q.named;
          }),
        )

    -- what a fault of it comes behind
    abbrev behind : Behind file
    behind = record {
      before = before;
      moof = moof;
      stands = u.next.stands;
      is_moof = u.next.is_moof;
      movie = movie;
      is_moov = u.next.is_moov;
      movie_tree = u.movie_is.tree;
      movie_sound = u.movie_is.sound;
      tables_sound = u.movie_is.tables_sound;
      tables_fit = u.movie_is.tables_fit;
      earlier = earlier;
      earlier_moofs = u.next.earlier_moofs;
      earlier_trees = u.trees;
      earlier_sound = u.sound;
      children = children;
      holds = u.holds;
      trafs_before = done;
      traf = b;
      trafs_after = later;
      is_traf = u.trafs;
      inside_before = insides;
      inside = boxes;
      trafs_held = u.held;
      traf_held = inner;
      trafs_sound = u.reached.sound;
    }

    abbrev so_far : List Part
    so_far = parts_behind movie earlier ++ parts_in movie moof.offset insides

    abbrev part : Part
    part = part_with moof.offset (last_is movie moof.offset insides boxes).place (trex_of_part (trexes_of movie) (track_fragment_of boxes)) (track_fragment_of boxes)

    -- its part is the last
    is_part : parts_with behind ≡ so_far ++ part ∷ []
    is_part =
        let l = last_is movie moof.offset insides boxes in
        ap (λ (ps : List Part). parts_behind movie earlier ++ ps) (l.behind ∙ ap (λ (p : Part). parts_in movie moof.offset insides ++ p ∷ []) l.is) ∙ sym (append_assoc (parts_behind movie earlier) (parts_in movie moof.offset insides) (part ∷ []))

    -- a rule of fragments is broken
    breaks : (rule : FragmentRule) → LeavesReadable rule boxes → KnownFor rule movie part → PartFails rule file movie passed.parts part → f ≡ fragment_fault rule boxes → Stands file f
    breaks rule readable known fails named = (
      fragment,
      record {
        behind = behind;
        consistent = subst (AreConsistent file movie) u.reached.parts u.reached.consistent;
        rule = rule;
        readable = readable;
        part = part;
        is_part = is_part;
        known = known;
        fails = subst (λ (ps : List Part). PartFails rule file movie ps part) u.reached.parts fails;
        named = named;
      },
    )

    -- ---- its leaves

    abbrev head : Box
    head = first_of (codes "tfhd") boxes

    abbrev is_there : Bool
    is_there = is_known (track_infos movie) (trexes_of movie) part

    abbrev runs_in : List Box
    runs_in = of_kind (codes "trun") boxes

    abbrev groups_in : List Box
    groups_in = of_kind (codes "sbgp") boxes

    one_head : count_among (codes "tfhd" ∷ []) boxes ≡ 1
    one_head = holds_only inner (codes "tfhd") refl

    few_times : count_among (codes "tfdt" ∷ []) boxes ≤ 1
    few_times = holds_few inner (codes "tfdt") refl

    only_head : of_kind (codes "tfhd") boxes ≡ head ∷ []
    only_head = only_of_kind (codes "tfhd") boxes head (only_first (codes "tfhd") boxes one_head) (omega (arith, one_head))

    -- its `tfhd`, its `tfdt` and its runs as leaves of their types
    heads : IsSound tfhd head.payload → AreSoundOf (codes "tfhd") boxes
    heads s = sound_of (codes "tfhd") tfhd boxes refl (subst (λ (bs : List Box). AllByRecursion (λ (c : Box). IsSound tfhd c.payload) bs) (sym only_head) (s, tt))

    only_time : (time : Box) → FoundAs (codes "tfdt" ∷ []) boxes (Some time) → of_kind (codes "tfdt") boxes ≡ time ∷ []
    only_time time i = only_of_kind (codes "tfdt") boxes time i few_times

    times_of : (time : Box) → FoundAs (codes "tfdt" ∷ []) boxes (Some time) → IsSound tfdt time.payload → AreSoundOf (codes "tfdt") boxes
    times_of time i s = sound_of (codes "tfdt") tfdt boxes refl (subst (λ (bs : List Box). AllByRecursion (λ (c : Box). IsSound tfdt c.payload) bs) (sym (only_time time i)) (s, tt))

    runs_of : AllByRecursion (λ (c : Box). IsSound trun c.payload) runs_in → AreSoundOf (codes "trun") boxes
    runs_of s = sound_of (codes "trun") trun boxes refl s

    -- ---- the tests in order

    abbrev times : (Box → List (Test Fault)) → List (Test Fault)
    times tests = first_box_tests (codes "tfdt" ∷ []) boxes tests

    abbrev T : List (Test Fault)
    T = naming head (leaf_tests tfhd head.payload ++ (is_there, UnknownTrack) ∷ [])

    abbrev M : List (Test Fault)
    M = times (λ (c : Box). naming c (leaf_tests tfdt c.payload))

    abbrev U : List (Test Fault)
    U = run_tests (length file) passed.room part.runs runs_in

    abbrev X : List (Test Fault)
    X = naming head ((has_indexes (track_infos movie) part, BadDescriptionIndex) ∷ [])

    abbrev B : List (Test Fault)
    B = group_boxes_tests (length (part_samples part)) (named_keys passed.parts part (track_at movie part.id)) part 0 groups_in

    abbrev L : List (Test Fault)
    L = times (λ (c : Box). naming c ((is_due_time passed.parts part (track_at movie part.id), Gap) ∷ []))

    no_times : (tests : Box → List (Test Fault)) → first_among (codes "tfdt" ∷ []) boxes ≡ None → times tests ≡ []
    no_times tests e = rw e refl

    time_there : (tests : Box → List (Test Fault)) (c : Box) → first_among (codes "tfdt" ∷ []) boxes ≡ Some c → times tests ≡ tests c
    time_there tests c e = rw e refl

    none_is_some : first_failed {F = Fault} [] ≡ Some f → ⊥
    none_is_some e = cc

    -- ---- where one fails

    -- the `tfhd`, or its track
    at_head : first_failed T ≡ Some f → Stands file f
    at_head e =
        let m = named_kind head (leaf_tests tfhd head.payload ++ (is_there, UnknownTrack) ∷ []) f e in
        elim (either_fails (leaf_tests tfhd head.payload) ((is_there, UnknownTrack) ∷ []) m.0 m.1) [
          | inl own ↦ elim (leaf_fails tfhd [] head.payload m.0 own) [
            | inl x ↦ leaf_stands (codes "tfhd") tfhd refl [] head [] only_head (record { kind = m.0; fails = x; named = m.2 })
            | inr r ↦ let none = r.1 in absurd cc
          ]
          | inr x ↦
              let s = (leaf_passes tfhd [] head.payload x.0).0 in
              let o = one_fails is_there UnknownTrack m.0 x.1 in
              breaks unknown_track (heads s) tt o.0 (m.2 ∙ ap (λ (k : Kind). fault_of k head) o.1)
        ]

    -- the `tfdt`
    at_time : first_failed M ≡ Some f → Stands file f
    at_time e = by (first_among (codes "tfdt" ∷ []) boxes) refl (found_as (codes "tfdt" ∷ []) boxes)
      where
        by : (o : Option Box) → first_among (codes "tfdt" ∷ []) boxes ≡ o → FoundAs (codes "tfdt" ∷ []) boxes o → Stands file f
        by None g i = absurd (none_is_some (sym (ap first_failed (no_times (λ (c : Box). naming c (leaf_tests tfdt c.payload)) g)) ∙ e))
        by (Some time) g i =
            let m = named_kind time (leaf_tests tfdt time.payload) f (sym (ap first_failed (time_there (λ (c : Box). naming c (leaf_tests tfdt c.payload)) time g)) ∙ e) in
            elim (leaf_fails tfdt [] time.payload m.0 m.1) [
              | inl x ↦ leaf_stands (codes "tfdt") tfdt refl [] time [] (only_time time i) (record { kind = m.0; fails = x; named = m.2 })
              | inr r ↦ let none = r.1 in absurd cc
            ]

    -- ---- its runs

    run_joined : (front : List Box) (run : Box) → run_total (front ++ run ∷ []) ≡ run_total front + (row_count trun run.payload + 0)
    run_joined front run = sum_joined (λ (c : Box). row_count trun c.payload) front (run ∷ [])

    many_passed : (room total front row all m : ℕ) → room + total ≡ m → front ≤ room → room - front < row → all ≡ front + (row + 0) → m < total + all
    many_passed room total front row all m e le lt j = omega arith

    many_before : (room total front m : ℕ) → room + total ≡ m → front ≤ room → total + front ≤ m
    many_before room total front m e le = omega arith

    -- runs that are sound, and one that can be read, can all be read
    runs_readable : (front : List Box) (run : Box) → AllByRecursion (λ (c : Box). IsSound trun c.payload) front → IsReadable trun run.payload → RunsReadable (front ++ run ∷ [])
    runs_readable front run s r = all_push (λ (c : Box). IsReadable trun c.payload) front run (each_weaker (λ (c : Box). IsSound trun c.payload) (λ (c : Box). IsReadable trun c.payload) (λ c h. h.readable) front s) r

    -- a run, or a sample of it
    at_runs : IsSound tfhd head.payload → is_there ≡ true → first_failed U ≡ Some f → Stands file f
    at_runs s there e = by (runs_fail (length file) f passed.room part.runs runs_in e)
      where
        many : (q : FailingRun (length file) passed.room part.runs runs_in f) → ManyIn passed.room q.front q.run f → Stands file f
        many q m =
            let total = counted movie earlier + trafs_total insides in (
              count,
              inr (record {
                behind = behind;
                before = q.front;
                run = q.run;
                after = q.after;
                runs = q.are;
                readable = runs_readable q.front q.run q.sound m.readable;
                total = total;
                total_is = refl;
                passes = many_passed passed.room total (run_total q.front) (row_count trun q.run.payload) (run_total (q.front ++ q.run ∷ [])) max_samples u.reached.left q.fits m.many (run_joined q.front q.run);
                not_before = many_before passed.room total (run_total q.front) max_samples u.reached.left q.fits;
                named = m.named;
              }),
            )

        outside : (q : FailingRun (length file) passed.room part.runs runs_in f) → OutsideIn (length file) part.runs q.front q.run f → Stands file f
        outside q o =
            let taken : take (suc (length q.front)) runs_in ≡ q.front ++ q.run ∷ [] = ap (take (suc (length q.front))) q.are ∙ taken_with q.front q.after q.run in
            let found : slice_get runs_in (length q.front) ≡ Some q.run = ap (λ (bs : List Box). slice_get bs (length q.front)) q.are ∙ found_there q.front q.after q.run in
            breaks (place (length q.front)) (heads s, subst RunsReadable (sym taken) (runs_readable q.front q.run q.sound o.readable)) there (o.samples, o.there, o.outside)
            (o.named ∙ ap (λ (x : Option Box). fault_of SampleOutsideFile (unwrap_or x (first_of (codes "trun") boxes))) (sym found))

        by : FailingRun (length file) passed.room part.runs runs_in f → Stands file f
        by q = elim q.fault [
          | inl own ↦ leaf_stands (codes "trun") trun refl q.front q.run q.after q.are own
          | inr (inl m) ↦ many q m
          | inr (inr o) ↦ outside q o
        ]

    -- a sample without a description
    at_indexes : IsSound tfhd head.payload → is_there ≡ true → AllByRecursion (λ (c : Box). IsSound trun c.payload) runs_in → first_failed X ≡ Some f → Stands file f
    at_indexes s there r e =
        let m = named_kind head ((has_indexes (track_infos movie) part, BadDescriptionIndex) ∷ []) f e in
        let o = one_fails (has_indexes (track_infos movie) part) BadDescriptionIndex m.0 m.1 in
        breaks description_index (heads s, runs_of r) there o.0 (m.2 ∙ ap (λ (k : Kind). fault_of k head) o.1)

    -- ---- by its track

    track_there : is_there ≡ true → (t : TrackTree) × (track_at movie part.id ≡ Some t)
    track_there there = track_found movie part.id (and_parts (is_some (track_for (track_infos movie) part.id)) (is_some (trex_for (trexes_of movie) part.id)) there).0

    same_id : (t : TrackTree) → track_at movie part.id ≡ Some t → id_of t ≡ part.id
    same_id t e = eqb-true (id_of t) part.id (found_passes (λ (x : TrackTree). id_of x == part.id) movie.tracks t e)

    leaves_by : (rule : GroupRule) (n : ℕ) → AreSoundOf (codes "tfhd") boxes → AreSoundOf (codes "trun") boxes → GroupsReadable (group_reads rule n groups_in) → LeavesReadable (fragment_group rule n) boxes
    leaves_by one_of_key n h r g = (h, g)
    leaves_by few_keys n h r g = (h, g)
    leaves_by index_range n h r g = (h, g)
    leaves_by group_counts n h r g = (h, g, r)

    -- an `sbgp`, or a rule that it does not keep
    at_groups : IsSound tfhd head.payload → is_there ≡ true → AllByRecursion (λ (c : Box). IsSound trun c.payload) runs_in → first_failed B ≡ Some f → Stands file f
    at_groups s there r e = by (groups_fail (length (part_samples part)) (named_keys passed.parts part (track_at movie part.id)) part 0 groups_in f e)
      where
        broken : (q : FailingGroup (length (part_samples part)) (named_keys passed.parts part (track_at movie part.id)) part 0 groups_in f)
            → Breaks (length (part_samples part)) (named_keys passed.parts part (track_at movie part.id)) part (0 + length q.front) q.group f → Stands file f
        broken q x =
            let t = track_there there in
            let at : 0 + length q.front ≡ length q.front = omega arith in
            let found : slice_get groups_in (length q.front) ≡ Some q.group = ap (λ (bs : List Box). slice_get bs (length q.front)) q.are ∙ found_there q.front q.after q.group in
            let fails : has_groups x.rule (keys_behind (plain_keys t.0) (parts_for part.id passed.parts)) part (length q.front) ≡ false =
            sym (λ i. has_groups x.rule (named_keys passed.parts part (t.1 i)) part (at i)) ∙ x.broken in
            let earlier_read = each_weaker (λ (c : Box). IsSound sbgp c.payload) (λ (c : Box). IsReadable sbgp c.payload) (λ c h. h.readable) q.front q.sound in
            let read = subst (λ (bs : List Box). GroupsReadable (group_reads x.rule (length q.front) bs)) (sym q.are) (groups_readable x.rule q.front q.after q.group earlier_read x.readable) in
            breaks (fragment_group x.rule (length q.front)) (leaves_by x.rule (length q.front) (heads s) (runs_of r) read) there
            (t.0, contains_found (λ (y : TrackTree). id_of y == part.id) movie.tracks t.0 t.1, same_id t.0 t.1, fails)
            (x.named ∙ ap (λ (y : Option Box). fault_of (group_kind x.rule) (unwrap_or y (first_of (codes "sbgp") boxes))) (sym found))

        by : FailingGroup (length (part_samples part)) (named_keys passed.parts part (track_at movie part.id)) part 0 groups_in f → Stands file f
        by q = elim q.fault [
          | inl own ↦ leaf_stands (codes "sbgp") sbgp refl q.front q.group q.after q.are own
          | inr x ↦ broken q x
        ]

    -- a time that is not due
    at_due : IsSound tfhd head.payload → is_there ≡ true → AllByRecursion (λ (c : Box). IsSound trun c.payload) runs_in → first_failed M ≡ None → first_failed L ≡ Some f → Stands file f
    at_due s there r n e = by (first_among (codes "tfdt" ∷ []) boxes) refl (found_as (codes "tfdt" ∷ []) boxes)
      where
        by : (o : Option Box) → first_among (codes "tfdt" ∷ []) boxes ≡ o → FoundAs (codes "tfdt" ∷ []) boxes o → Stands file f
        by None g i = absurd (none_is_some (sym (ap first_failed (no_times (λ (c : Box). naming c ((is_due_time passed.parts part (track_at movie part.id), Gap) ∷ [])) g)) ∙ e))
        by (Some time) g i =
            let t = track_there there in
            let due = is_due_time passed.parts part (track_at movie part.id) in
            let m = named_kind time ((due, Gap) ∷ []) f (sym (ap first_failed (time_there (λ (c : Box). naming c ((due, Gap) ∷ [])) time g)) ∙ e) in
            let o = one_fails due Gap m.0 m.1 in
            let own = (leaf_passes tfdt [] time.payload (named_pass time (leaf_tests tfdt time.payload) (sym (ap first_failed (time_there (λ (c : Box). naming c (leaf_tests tfdt c.payload)) time g)) ∙ n))).0 in
            breaks decode_time (heads s, times_of time i own, runs_of r) there
            (t.0, contains_found (λ (y : TrackTree). id_of y == part.id) movie.tracks t.0 t.1, same_id t.0 t.1, sym (ap (is_due_time passed.parts part) t.1) ∙ o.0)
            (m.2 ∙ ap (λ (k : Kind). fault_of k time) o.1 ∙ ap (fault_of Gap) (sym (first_kept (codes "tfdt") boxes time [] (only_time time i))))

    -- ---- all of them

    -- what passes in front
    first_fine : first_failed T ≡ None → IsSound tfhd head.payload × (is_there ≡ true)
    first_fine e = head_passes file movie passed boxes (box_container b) inner moof.offset (last_is movie moof.offset insides boxes).place (trex_of_part (trexes_of movie) (track_fragment_of boxes)) e

    runs_fine : first_failed U ≡ None → AllByRecursion (λ (c : Box). IsSound trun c.payload) runs_in
    runs_fine e =
        (runs_pass (length file) passed.room part.runs runs_in (runs_many file movie passed boxes (box_container b) inner moof.offset (last_is movie moof.offset insides boxes).place (trex_of_part (trexes_of movie) (track_fragment_of boxes))) e).sound

    in_two : first_failed (T ++ M) ≡ Some f → Stands file f
    in_two e = elim (either_fails T M f e) [ inl x ↦ at_head x | inr x ↦ at_time x.1 ]

    in_three : first_failed ((T ++ M) ++ U) ≡ Some f → Stands file f
    in_three e = elim (either_fails (T ++ M) U f e) [ inl x ↦ in_two x | inr x ↦ let h = first_fine (both_pass T M x.0).0 in at_runs h.0 h.1 x.1 ]

    in_four : first_failed (((T ++ M) ++ U) ++ X) ≡ Some f → Stands file f
    in_four e = elim (either_fails ((T ++ M) ++ U) X f e) [
      | inl x ↦ in_three x
      | inr x ↦
          let p = both_pass (T ++ M) U x.0 in
          let h = first_fine (both_pass T M p.0).0 in
          at_indexes h.0 h.1 (runs_fine p.1) x.1
    ]

    in_five : first_failed ((((T ++ M) ++ U) ++ X) ++ B) ≡ Some f → Stands file f
    in_five e = elim (either_fails (((T ++ M) ++ U) ++ X) B f e) [
      | inl x ↦ in_four x
      | inr x ↦
          let p = both_pass (T ++ M) U (both_pass ((T ++ M) ++ U) X x.0).0 in
          let h = first_fine (both_pass T M p.0).0 in
          at_groups h.0 h.1 (runs_fine p.1) x.1
    ]

    in_six : first_failed (((((T ++ M) ++ U) ++ X) ++ B) ++ L) ≡ Some f → Stands file f
    in_six e = elim (either_fails ((((T ++ M) ++ U) ++ X) ++ B) L f e) [
      | inl x ↦ in_five x
      | inr x ↦
          let p = both_pass (T ++ M) U (both_pass ((T ++ M) ++ U) X (both_pass (((T ++ M) ++ U) ++ X) B x.0).0).0 in
          let q = both_pass T M p.0 in
          let h = first_fine q.0 in
          at_due h.0 h.1 (runs_fine p.1) q.1 x.1
    ]

    -- the first test of the `traf` that fails
    pub traf_fails : first_failed (traf_tests (length file) movie passed (last_part movie moof.offset (insides ++ boxes ∷ [])) boxes) ≡ Some f → Stands file f
    traf_fails e = in_six (subst (λ (p : Part). first_failed (traf_tests (length file) movie passed p boxes) ≡ Some f) (last_is movie moof.offset insides boxes).is e)
