-- The samples of the `traf`s of a `moof` as a walk hands them out are those of the definition.
use Rattle.std.proofs.Common.{◌≡◌, ℕ, ◌+◌, ◌^◌, ◌<◌, ◌≤◌, ◌==◌, Bool, true, false, cond, List, [], ◌∷◌, length, map, Option, Some, None, IsTrue, refl, sym, ap, ◌∙◌, rules, arith}
use Rattle.std.specs.Prelude.{slice_index, ℤ, codes, unwrap_or, option_map, is_some, find}
use Rattle.std.specs.List.{AllByRecursion}
use Rattle.std.proofs.lemmas.Bool.Decides.{nat_tests}
use Rattle.mp4_boxes.specs.format.Box.{Box, box_container}
use Rattle.mp4_boxes.specs.format.Children.{of_kind, payload_of, count_among, Holds}
use Rattle.mp4_boxes.specs.format.Layout.{tfhd, trun, sbgp, IsSound, IsReadable}
use Rattle.mp4_boxes.specs.format.Places.{ruled, AreSound}
use Rattle.mp4_boxes.specs.declared.rule.Rule.TheVariants as rule_names
use Rattle.mp4_boxes.proofs.Each.{each_weaker}
use Rattle.mp4_boxes.proofs.Sound.{sound_one, sound_each}
use Rattle.mp4_tables.specs.format.Groups.{GroupKey, maps_of}
use Rattle.mp4_tables.specs.format.PlainSamples.{PlacedSample, with_groups}
use Rattle.mp4_tables.specs.words.Timed.{timed}
use Rattle.mp4_tables.specs.words.Accepted.{AreDistinct}
use Rattle.mp4_tables.specs.words.Leaves.{boxes_of}
use Rattle.mp4_tables.proofs.LeafLists.{boxes_are}
use Rattle.mp4_frag.specs.format.Fragments.{TrackFragment, track_fragment_of}
use Rattle.mp4_frag.specs.format.FragmentSamples.{trex_for, runs_samples, duration_of}
use Rattle.mp4_frag.specs.format.FragmentRules.{is_within}
use Rattle.mp4_frag.specs.words.Judged.{AreTrexesOf}
use Rattle.mp4_frag.specs.words.Walks.{Reached, at_first, first_byte, boxes_in, no_indexes, are_named, with_leaves, runs_coming, boxes_coming, samples_in, trex_among}
use Rattle.mp4_frag.specs.declared.state.TrackState.{TrackState}
use Rattle.mp4_frag.specs.declared.trex.Trex.{Trex}
use Rattle.mp4_frag.proofs.BoxesMoved.{traf_moved}
use Rattle.mp4_frag.proofs.GroupsTied.{KeepRules, groups_shown, rules_differ, rules_few, rules_small}
use Rattle.mp4_frag.proofs.LeavesTied.{groups_taken, groups_are, leaves_tied, named_tied}
use Rattle.mp4_frag.proofs.RowsTied.{AreShown}
use Rattle.mp4_frag.proofs.RunsTied.{base_held, samples_of_runs, runs_tied}

-- ---- the defaults of a track

found_choice : (trexes : List Trex) (id : ℕ) (trex : Trex) (t : TrackState) (later : Option TrackState) (v : Bool) → (t.id == id) ≡ v → t.trex ≡ trex_for trexes t.id
    → (unwrap_or (option_map (λ (s : TrackState). s.trex) later) None ≡ Some trex → trex_for trexes id ≡ Some trex)
    → unwrap_or (option_map (λ (s : TrackState). s.trex) (cond v (Some t) later)) None ≡ Some trex → trex_for trexes id ≡ Some trex
found_choice trexes id trex t later true f own more g = let same : t.id ≡ id = grind (arith, nat_tests) in ap (trex_for trexes) (sym same) ∙ sym own ∙ g
found_choice trexes id trex t later false f own more g = more g

pub trex_found : (trexes : List Trex) (tracks : List TrackState) (id : ℕ) (trex : Trex) → AreTrexesOf trexes tracks → trex_among tracks id ≡ Some trex → trex_for trexes id ≡ Some trex
trex_found trexes [] id trex h e = absurd cc
trex_found trexes (t ∷ tracks) id trex h e = found_choice trexes id trex t (find (λ (s : TrackState). s.id == id) tracks) (t.id == id) refl h.0 (trex_found trexes tracks id trex h.1) e

pub some_known : (o : Option Trex) → IsTrue (is_some o) → (trex : Trex) × (o ≡ Some trex)
some_known None h = absurd cc
some_known (Some trex) h = (trex, refl)

-- ---- the boxes of a `traf`

-- its leaves are sound
record IsGoodTraf (boxes : List Box) : Type 0 where
  one_head : count_among (codes "tfhd" ∷ []) boxes ≡ 1
  head : IsReadable tfhd (payload_of (codes "tfhd") boxes)
  runs : AllByRecursion (λ (b : Box). IsSound trun b.payload) (of_kind (codes "trun") boxes)
  groups : AllByRecursion (λ (b : Box). IsReadable sbgp b.payload) (of_kind (codes "sbgp") boxes)

good_traf : (b : Box) (boxes : List Box) → Holds rule_names.TrackFragment (box_container b) boxes → AreSound (ruled rule_names.TrackFragment) boxes → IsGoodTraf boxes
good_traf b boxes holds sound =
    let one = holds.quantities.0 in
    record {
      one_head = one;
      head = (sound_one (ruled rule_names.TrackFragment) (codes "tfhd") tfhd refl boxes sound one).readable;
      runs = sound_each (ruled rule_names.TrackFragment) (codes "trun") trun refl boxes sound;
      groups = each_weaker (λ (c : Box). IsSound sbgp c.payload) (λ (c : Box). IsReadable sbgp c.payload) (λ c s. s.readable) (of_kind (codes "sbgp") boxes)
          (sound_each (ruled rule_names.TrackFragment) (codes "sbgp") sbgp refl boxes sound);
    }

-- ---- one `traf`

-- its samples, run by run
abbrev samples_inside : TrackFragment → Trex → ℤ → List Box → List PlacedSample
samples_inside traf trex base boxes = samples_of_runs traf trex base base (of_kind (codes "trun") boxes)

-- the boxes of the `traf` in the walk are its boxes
pub inside_is : (b : Box) (boxes : List Box) → Holds rule_names.TrackFragment (box_container b) boxes → boxes_in (b.offset + b.header) b.payload ≡ boxes
unfolding boxes_of
inside_is b boxes h = boxes_are b boxes h.tiles

-- its samples, from a base and a decode time on
pub traf_tied : (keys : List GroupKey) (L id n number dts : ℕ) (base : ℤ) (b : Box) (boxes : List Box) (trex : Trex) → L < 2 ^ 64 → length keys ≤ 4 → AreDistinct keys
    → Holds rule_names.TrackFragment (box_container b) boxes → AreSound (ruled rule_names.TrackFragment) boxes → (track_fragment_of boxes).id ≡ id
    → AllByRecursion (λ samples. IsTrue (is_within L samples)) (runs_samples trex (track_fragment_of boxes) base base (track_fragment_of boxes).runs) → KeepRules n (track_fragment_of boxes).groups
    → number + length (samples_inside (track_fragment_of boxes) trex base boxes) < 2 ^ 32 → dts + duration_of (samples_inside (track_fragment_of boxes) trex base boxes) < 2 ^ 64
    → samples_in b.payload base id trex number dts keys ≡ timed keys number dts (with_groups (maps_of n (track_fragment_of boxes).groups) (samples_inside (track_fragment_of boxes) trex base boxes))
traf_tied keys L id n number dts base b boxes trex short few distinct holds sound same within kept room fits =
    let traf = track_fragment_of boxes in
    let good = good_traf b boxes holds sound in
    let lists = groups_taken keys no_indexes (of_kind (codes "sbgp") boxes) in
    let taken_is = groups_are keys no_indexes (of_kind (codes "sbgp") boxes) good.groups (rules_small n traf.groups kept) in
    let shown : AreShown keys lists (maps_of n traf.groups) = λ i. ap (λ (ls : List (List ℕ)). map (λ l. slice_index l i) ls) taken_is ∙ groups_shown keys n traf.groups few distinct (rules_differ n traf.groups kept) (rules_few n traf.groups kept) i in
    let own : are_named id false boxes ≡ true = named_tied id boxes good.one_head good.head ∙ search (rules, same) in
    let leaves = leaves_tied trex keys base number dts boxes good.one_head good.head in
    let runs = runs_tied keys L traf trex base boxes short number dts (first_byte base) base lists (maps_of n traf.groups) (base_held base) good.runs shown within room fits in
    traf_moved base id trex number dts keys 0 (b.offset + b.header) b.payload
    ∙ ap (boxes_coming base id trex number dts keys) (inside_is b boxes holds)
    ∙ ap (λ v. cond v (runs_coming (with_leaves trex keys (at_first base number dts) boxes) boxes) []) own
    ∙ ap (λ (s : Reached). runs_coming s boxes) leaves
    ∙ runs
