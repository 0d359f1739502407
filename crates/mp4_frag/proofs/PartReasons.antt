-- What of the part of a `traf` is not as it should be where the `traf` is refused.
use Rattle.std.proofs.Common.{◌≡◌, ℕ, ◌<◌, ◌==◌, ◌&&◌, not, nat_lt, Bool, true, false, List, [], ◌∷◌, length, Option, Some, None, refl, sym, ap, ◌∙◌, rules, arith}
use Rattle.std.specs.Prelude.{ℤ, codes, unwrap_or, option_map, flat_map, ◌||◌}
use Rattle.std.specs.List.{list_all}
use Rattle.std.proofs.lemmas.Bool.{and_parts, ltb-true}
use Rattle.mp4_boxes.specs.format.Box.{Box}
use Rattle.mp4_boxes.specs.format.Children.{of_kind}
use Rattle.mp4_boxes.proofs.Plain.{same_eq}
use Rattle.mp4_tables.specs.format.Groups.{maps_of}
use Rattle.mp4_tables.specs.format.PlainSamples.{PlacedSample}
use Rattle.mp4_frag.specs.format.Fragments.{TrackFragment, track_fragment_of}
use Rattle.mp4_frag.specs.format.FragmentSamples.{part_samples, has_samples, is_on_time, base_of}
use Rattle.mp4_frag.specs.words.Judged.{part_with}
use Rattle.mp4_frag.specs.words.Passing.{is_late_at}
use Rattle.mp4_frag.specs.words.Reading.{inheritance}
use Rattle.mp4_frag.specs.words.RunsJudged.{runs_total}
use Rattle.mp4_frag.specs.declared.state.TrackState.{TrackState}
use Rattle.mp4_frag.specs.declared.trex.Trex.{Trex}
use Rattle.mp4_frag.proofs.TracksMoved.{IsTested, part_tested}
use Rattle.mp4_frag.proofs.TrafPassed.{runs_count}
use Rattle.mp4_tables.proofs.Counts.{groups_length}

-- a `traf` has as many samples as its runs
pub part_counts : (moof : ℕ) (before : ℤ) (trex : Trex) (boxes : List Box) → length (part_samples (part_with moof before trex (track_fragment_of boxes))) ≡ runs_total (of_kind (codes "trun") boxes)
part_counts moof before trex boxes =
    let traf = track_fragment_of boxes in
    let start = base_of moof before traf in
    let part = part_with moof before trex traf in
    let flat = flat_map (λ samples. samples) part.runs in
    groups_length (maps_of (length flat) part.groups) flat ∙ sym (runs_count traf trex start start (of_kind (codes "trun") boxes))

-- ---- descriptions

not_both : (v w : Bool) → w ≡ true → (v && not w) ≡ false
not_both true w e = ap not e
not_both false w e = refl

-- the samples of a `traf` have the description that it says
one_description : (moof : ℕ) (before : ℤ) (trex : Trex) (traf : TrackFragment) → IsTested (λ d. d == (inheritance traf trex).description) (part_samples (part_with moof before trex traf))
one_description moof before trex traf =
    let d = unwrap_or traf.description trex.description in
    part_tested (λ n. n == d) moof before trex traf (nat_lt 0 (length (part_samples (part_with moof before trex traf)))) refl (not_both (nat_lt 0 (length (part_samples (part_with moof before trex traf)))) (d == d) (same_eq d))

first_fails : (test : ℕ → Bool) (d : ℕ) (samples : List PlacedSample) → IsTested (λ n. n == d) samples → 0 < length samples → test d ≡ false → list_all (λ (s : PlacedSample). test s.description) samples ≡ false
first_fails test d [] h some e = absurd (omega arith)
first_fails test d (s ∷ samples) h some e =
    let both = and_parts (s.description == d) (list_all (λ (t : PlacedSample). t.description == d) samples) h in
    let first = both.0 in
    let same : s.description ≡ d = search rules in
    ap (λ v. v && list_all (λ (t : PlacedSample). test t.description) samples) (ap test same ∙ e)

-- where there is no such description, a sample has none
pub lacks_description : (test : ℕ → Bool) (moof : ℕ) (before : ℤ) (trex : Trex) (boxes : List Box) → 0 < runs_total (of_kind (codes "trun") boxes) → test (inheritance (track_fragment_of boxes) trex).description ≡ false
    → list_all (λ (s : PlacedSample). test s.description) (part_samples (part_with moof before trex (track_fragment_of boxes))) ≡ false
lacks_description test moof before trex boxes some e =
    let count = part_counts moof before trex boxes in
    first_fails test (inheritance (track_fragment_of boxes) trex).description (part_samples (part_with moof before trex (track_fragment_of boxes))) (one_description moof before trex (track_fragment_of boxes)) (omega (arith, some, count)) e

-- ---- times

late_by : (state : TrackState) (time : Option ℕ) (n : ℕ) → is_late_at state time n ≡ true → (0 < state.count) × (nat_lt 0 n ≡ true) × (unwrap_or (option_map (λ t. t == state.time) time) true ≡ false)
late_by state None n e = absurd cc
late_by state (Some t) n e =
    let first = and_parts (nat_lt 0 n) (nat_lt 0 state.count && not (t == state.time)) e in
    let second = and_parts (nat_lt 0 state.count) (not (t == state.time)) first.1 in
    (ltb-true 0 state.count second.0, first.0, turned (t == state.time) second.1)
  where
    turned : (v : Bool) → not v ≡ true → v ≡ false
    turned true e = absurd cc
    turned false e = refl

-- a late `traf` is not on time
pub not_on_time : (moof : ℕ) (before : ℤ) (trex : Trex) (boxes : List Box) (state : TrackState) → is_late_at state (track_fragment_of boxes).decode_time (runs_total (of_kind (codes "trun") boxes)) ≡ true
    → (0 < state.count) × (is_on_time state.time (part_with moof before trex (track_fragment_of boxes)) ≡ false)
not_on_time moof before trex boxes state e =
    let r = late_by state (track_fragment_of boxes).decode_time (runs_total (of_kind (codes "trun") boxes)) e in
    let has : has_samples (part_with moof before trex (track_fragment_of boxes)) ≡ true = ap (nat_lt 0) (part_counts moof before trex boxes) ∙ r.1 in
    (r.0, (λ i. not (has i) || r.2 i))
