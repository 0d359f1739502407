-- What is tested of a `traf` by the states of the tracks, and by the parts before it: the same tests.
use Rattle.std.proofs.Common.{◌≡◌, ℕ, suc, ◌+◌, ◌-◌, ◌<◌, ◌==◌, ◌&&◌, ◌||◌, Bool, true, false, cond, List, [], ◌∷◌, ◌++◌, Option, Some, None, length, map, refl, sym, ap, subst, ◌∙◌, rules, arith, append_assoc, length-append}
use Rattle.std.specs.Prelude.{ℤ, codes, bytes_eq, not, nat_le, nat_lt, unwrap_or, option_map}
use Rattle.std.specs.List.{list_all}
use Rattle.std.proofs.lemmas.Bool.{and_parts, ltb-true, ltb-false}
use Rattle.std.proofs.lemmas.List.{map-append}
use Rattle.mp4_boxes.specs.format.Box.{Box}
use Rattle.mp4_boxes.specs.format.BoxFaults.{fault_of}
use Rattle.mp4_boxes.specs.format.Children.{of_kind}
use Rattle.mp4_boxes.specs.format.Layout.{trun, sbgp, row_count}
use Rattle.mp4_boxes.specs.format.FirstFault.{Test, first_failed, naming, leaf_tests_with}
use Rattle.mp4_boxes.specs.declared.fault.Fault.{Fault}
use Rattle.mp4_boxes.specs.declared.fault.Kind.{Kind}
use Rattle.mp4_boxes.specs.declared.fault.Kind.TheVariants.{TooManySamples, SampleOutsideFile, DuplicateBox, BadValue, CountMismatch}
use Rattle.mp4_boxes.proofs.Plain.{not_is_true, or_true}
use Rattle.mp4_tables.specs.format.FirstFault.{first_box_tests}
use Rattle.mp4_tables.specs.format.Groups.{GroupKey, Grouping, GroupRule, one_of_key, few_keys, index_range, group_counts, grouping_of, groupings_of, group_test, keeps}
use Rattle.mp4_tables.specs.format.PlainSamples.{PlacedSample}
use Rattle.mp4_tables.specs.format.TableRules.{is_index}
use Rattle.mp4_frag.specs.format.Fragments.{TrackFragment, track_fragment_of, sample_run_of}
use Rattle.mp4_frag.specs.format.FragmentSamples.{Part, part_samples, parts_for, has_samples, is_on_time, start_of, duration_of, run_start, run_samples, runs_samples, end_of_data}
use Rattle.mp4_frag.specs.format.FragmentRules.{has_indexes, is_within}
use Rattle.mp4_frag.specs.words.FragmentTests.{runs_tests, traf_groups_tests}
use Rattle.mp4_frag.specs.words.Judged.{TrackSeen, track_seen, part_with}
use Rattle.mp4_frag.specs.words.Passing.{is_late_at}
use Rattle.mp4_frag.specs.words.Reading.{inheritance}
use Rattle.mp4_frag.specs.words.RunsJudged.{runs_total}
use Rattle.mp4_frag.specs.words.TrafTests.{for_only, lacks}
use Rattle.mp4_frag.specs.declared.state.TrackState.{TrackState}
use Rattle.mp4_frag.specs.declared.trex.Trex.{Trex}
use Rattle.mp4_frag.proofs.PartReasons.{part_counts, lacks_description}
use Rattle.mp4_frag.proofs.RunsPassed.{judged_by}
use Rattle.mp4_frag.proofs.SamplesOfRows.{within_is, end_is}
use Rattle.mp4_frag.proofs.TracksMoved.{part_tested}
use Rattle.mp4_head.specs.format.Tree.{TrackTree, MovieTree}
use Rattle.mp4_present.specs.format.Denotes.{plain_of, track_infos}
use Rattle.mp4_present.specs.format.Judge.{run_tests, group_boxes_tests, is_due_time}
use Rattle.mp4_present.specs.words.Passing.{seen_behind}
use Rattle.mp4_present.proofs.PartsBehind.{IsTracked, id_of, indexes_same, own_more}
use Rattle.mp4_present.proofs.TracksBehind.{samples_of, says_time, start_came, start_first, lasts_none}
use Rattle.mp4_frag.proofs.MoofExcludes.{rule_at, there, before_it}

-- ---- lists of tests

-- the first to fail behind the same tests
pub first_behind : {F : Type 0} (xs ys zs : List (Test F)) → first_failed ys ≡ first_failed zs → first_failed (xs ++ ys) ≡ first_failed (xs ++ zs)
first_behind [] ys zs e = e
first_behind (x ∷ xs) ys zs e = ap (λ o. cond x.0 o (Some x.1)) (first_behind xs ys zs e)

-- tests that name a box, and more
pub naming-append : (b : Box) (xs ys : List (Test Kind)) → naming b (xs ++ ys) ≡ naming b xs ++ naming b ys
naming-append b [] ys = refl
naming-append b (x ∷ xs) ys = ap (λ (ts : List (Test Fault)). (x.0, fault_of x.1 b) ∷ ts) (naming-append b xs ys)

-- those of the first box of a type are those of the one box of it
pub only_box : (kind : List ℕ) (boxes : List Box) (tests : Box → List (Test Fault)) → first_box_tests (kind ∷ []) boxes tests ≡ for_only tests (of_kind kind boxes)
only_box kind [] tests = refl
only_box kind (b ∷ boxes) tests = by (bytes_eq kind b.kind) refl (only_box kind boxes tests)
  where
    by : (v : Bool) → bytes_eq kind b.kind ≡ v → first_box_tests (kind ∷ []) boxes tests ≡ for_only tests (of_kind kind boxes) → first_box_tests (kind ∷ []) (b ∷ boxes) tests ≡ for_only tests (of_kind kind (b ∷ boxes))
    by true e more = rw e refl
    by false e more = rw e more

-- ---- runs

-- each run: the same tests of its shape, its room and its places
pub runs_same : (L : ℕ) (traf : TrackFragment) (trex : Trex) (base before : ℤ) (room : ℕ) (boxes : List Box)
    → runs_tests (judged_by L (inheritance traf trex) base) before room boxes ≡ run_tests L room (runs_samples trex traf base before (map (λ (b : Box). sample_run_of b.payload) boxes)) boxes
runs_same L traf trex base before room [] = refl
runs_same L traf trex base before room (b ∷ boxes) =
    let run = sample_run_of b.payload in
    let at = run_start base before run.data_offset in
    let samples = run_samples trex traf run.first_sample_flags at run.rows in
    let within = sym (within_is L trex traf run.first_sample_flags at run.rows) in
    let ends = sym (end_is trex traf run.first_sample_flags at run.rows) in
    let n = row_count trun b.payload in
    let more = runs_same L traf trex base (end_of_data at samples) (room - n) boxes in
    (λ i. naming b (leaf_tests_with trun ((nat_le n room, TooManySamples) ∷ (within i, SampleOutsideFile) ∷ []) b.payload) ++ runs_tests (judged_by L (inheritance traf trex) base) (ends i) (room - n) boxes)
    ∙ ap (λ (ts : List (Test Fault)). naming b (leaf_tests_with trun ((nat_le n room, TooManySamples) ∷ (is_within L samples, SampleOutsideFile) ∷ []) b.payload) ++ ts) more

-- ---- `sbgp`s

-- one box more
one_longer : (front : List Box) (b : Box) → length (front ++ b ∷ []) ≡ suc (length front)
one_longer front b = omega (arith, length-append front (b ∷ []))

-- each `sbgp`: the same rules, behind the same groupings
pub groups_same : (n : ℕ) (keys : List GroupKey) (part : Part) (front boxes : List Box) → part.groups ≡ groupings_of (front ++ boxes)
    → traf_groups_tests n keys (groupings_of front) boxes ≡ group_boxes_tests n keys part (length front) boxes
groups_same n keys part front [] e = refl
groups_same n keys part front (b ∷ boxes) e =
    let one = λ (rule : GroupRule). sym (ap (λ gs. group_test rule n keys gs (length front)) e ∙ rule_at n keys (groupings_of (front ++ b ∷ boxes)) rule (length front) (grouping_of b.payload) (there front b boxes)
    ∙ ap (λ gs. keeps rule n keys gs (grouping_of b.payload)) (before_it front b boxes)) in
    let joined : groupings_of front ++ grouping_of b.payload ∷ [] ≡ groupings_of (front ++ b ∷ []) = sym (map-append (λ (c : Box). grouping_of c.payload) front (b ∷ [])) in
    let more = groups_same n keys part (front ++ b ∷ []) boxes (e ∙ ap groupings_of (sym (append_assoc front (b ∷ []) boxes))) in
    let rest : traf_groups_tests n keys (groupings_of front ++ grouping_of b.payload ∷ []) boxes ≡ group_boxes_tests n keys part (suc (length front)) boxes =
    ap (λ (gs : List Grouping). traf_groups_tests n keys gs boxes) joined ∙ more ∙ ap (λ (k : ℕ). group_boxes_tests n keys part k boxes) (one_longer front b) in
    λ i. naming b (leaf_tests_with sbgp ((one one_of_key i, DuplicateBox) ∷ (one few_keys i, BadValue) ∷ (one index_range i, BadValue) ∷ (one group_counts i, CountMismatch) ∷ []) b.payload) ++ rest i

-- ---- descriptions

-- whether each sample of a `traf` has a description, where so many descriptions are there
each_described : (descriptions moof : ℕ) (before : ℤ) (trex : Trex) (boxes : List Box) (v : Bool)
    → (nat_lt 0 (runs_total (of_kind (codes "trun") boxes)) && not (is_index descriptions (inheritance (track_fragment_of boxes) trex).description)) ≡ v
    → not v ≡ list_all (λ (s : PlacedSample). is_index descriptions s.description) (part_samples (part_with moof before trex (track_fragment_of boxes)))
each_described descriptions moof before trex boxes false e =
    let part = part_with moof before trex (track_fragment_of boxes) in
    sym (part_tested (is_index descriptions) moof before trex (track_fragment_of boxes) (nat_lt 0 (length (part_samples part))) refl (ap (λ (m : ℕ). nat_lt 0 m && not (is_index descriptions (inheritance (track_fragment_of boxes) trex).description)) (part_counts moof before trex boxes) ∙ e))
each_described descriptions moof before trex boxes true e =
    let d = (inheritance (track_fragment_of boxes) trex).description in
    let n = runs_total (of_kind (codes "trun") boxes) in
    let both = and_parts (nat_lt 0 n) (not (is_index descriptions d)) e in
    sym (lacks_description (is_index descriptions) moof before trex boxes (ltb-true 0 n both.0) (not_is_true (is_index descriptions d) both.1))

-- it is whether its indexes name descriptions of the track
pub described : (movie : MovieTree) (ps : List Part) (moof : ℕ) (before : ℤ) (trex : Trex) (boxes : List Box) (t : TrackState) → IsTracked movie ps (track_fragment_of boxes).id (track_seen t)
    → not (lacks t (inheritance (track_fragment_of boxes) trex).description (runs_total (of_kind (codes "trun") boxes))) ≡ has_indexes (track_infos movie) (part_with moof before trex (track_fragment_of boxes))
described movie ps moof before trex boxes t tracked =
    each_described t.descriptions moof before trex boxes (lacks t (inheritance (track_fragment_of boxes) trex).description (runs_total (of_kind (codes "trun") boxes))) refl
    ∙ sym (indexes_same movie ps (part_with moof before trex (track_fragment_of boxes)) (track_seen t) tracked)

-- ---- times

-- a time that is said
time_cases : (time due next count : ℕ) (has : Bool) → (has ≡ true → 0 < count → due ≡ next) → (has ≡ true → count ≡ 0 → time ≡ due) → not has || (time == due) ≡ not (has && (nat_lt 0 count && not (time == next)))
time_cases time due next count false later first = refl
time_cases time due next count true later first = by (nat_lt 0 count) refl
  where
    twice : (v : Bool) → v ≡ not (not v)
    twice true = refl
    twice false = refl

    itself : (m n : ℕ) → m ≡ n → (m == n) ≡ true
    itself m n e = search rules

    by : (v : Bool) → nat_lt 0 count ≡ v → (time == due) ≡ not (v && not (time == next))
    by true e = ap (λ (m : ℕ). time == m) (later refl (ltb-true 0 count e)) ∙ twice (time == next)
    by false e = let none = ltb-false 0 count e in itself time due (first refl (omega (arith, none)))

module _ (plain : List PlacedSample) (own : List Part) (part : Part) where
  -- where samples came
  due_came : 0 < length (plain ++ samples_of own) → start_of plain (own ++ part ∷ []) + duration_of plain + duration_of (samples_of own) ≡ start_of plain own + duration_of plain + duration_of (samples_of own)
  due_came some = ap (λ (s : ℕ). s + duration_of plain + duration_of (samples_of own)) (start_came plain own part some)

  -- where none did
  due_first : length (plain ++ samples_of own) ≡ 0 → has_samples part ≡ true → start_of plain (own ++ part ∷ []) + duration_of plain + duration_of (samples_of own) ≡ says_time part
  due_first z e =
      let starts = start_first plain own part z e in
      let both = length-append plain (samples_of own) in
      let no_plain = lasts_none plain (omega (arith, both, z)) in
      let no_own = lasts_none (samples_of own) (omega (arith, both, z)) in
      omega (arith, starts, no_plain, no_own)

  -- whether a time that the part says is due
  due_by : (t : TrackState) → t.count ≡ length (plain ++ samples_of own) → t.time ≡ start_of plain own + duration_of plain + duration_of (samples_of own) → (n : ℕ) → nat_lt 0 n ≡ has_samples part → (o : Option ℕ) → part.decode_time ≡ o
      → not (has_samples part) || unwrap_or (option_map (λ time. time == (start_of plain (own ++ part ∷ []) + duration_of plain + duration_of (samples_of own))) o) true ≡ not (is_late_at t o n)
  due_by t count time n some None e = or_true (not (has_samples part))
  due_by t count time n some (Some said) e =
      time_cases said (start_of plain (own ++ part ∷ []) + duration_of plain + duration_of (samples_of own)) t.time t.count (has_samples part)
      (λ has came. due_came (subst (λ (m : ℕ). 0 < m) count came) ∙ sym time)
      (λ has none. sym (due_first (sym count ∙ none) has ∙ ap (λ (o : Option ℕ). unwrap_or o 0) e))
      ∙ ap (λ (v : Bool). not (v && (nat_lt 0 t.count && not (said == t.time)))) (sym some)

  -- the part is on time where it is not late for the track
  late_same : (t : TrackState) → t.count ≡ length (plain ++ samples_of own) → t.time ≡ start_of plain own + duration_of plain + duration_of (samples_of own) → (n : ℕ) → nat_lt 0 n ≡ has_samples part
      → is_on_time (start_of plain (own ++ part ∷ []) + duration_of plain + duration_of (samples_of own)) part ≡ not (is_late_at t part.decode_time n)
  late_same t count time n some = due_by t count time n some part.decode_time refl

-- it is the time that is due by the parts
pub due_same : (movie : MovieTree) (ps : List Part) (tree : TrackTree) (part : Part) (t : TrackState) → seen_behind movie ps tree ≡ track_seen t → id_of tree ≡ part.id → (n : ℕ) → nat_lt 0 n ≡ has_samples part
    → is_due_time ps part (Some tree) ≡ not (is_late_at t part.decode_time n)
due_same movie ps tree part t seen same n some =
    let own = parts_for part.id ps in
    let plain = plain_of tree in
    let count : t.count ≡ length (plain ++ samples_of own) = sym (ap (λ (x : TrackSeen). x.count) seen) ∙ ap (λ (id : ℕ). length (plain ++ samples_of (parts_for id ps))) same in
    let time : t.time ≡ start_of plain own + duration_of plain + duration_of (samples_of own) =
    sym (ap (λ (x : TrackSeen). x.time) seen) ∙ ap (λ (id : ℕ). start_of plain (parts_for id ps) + duration_of plain + duration_of (samples_of (parts_for id ps))) same in
    ap (λ (qs : List Part). is_on_time (start_of plain qs + duration_of plain + duration_of (samples_of own)) part) (own_more part.id ps part refl) ∙ late_same plain own part t count time n some
