-- The samples of a `traf` of a sound `moof`, as a walk hands them out, are those of the definition.
use Rattle.std.proofs.Common.{◌≡◌, ℕ, zero, suc, ◌+◌, ◌^◌, ◌<◌, ◌≤◌, ◌==◌, true, List, [], ◌∷◌, length, map, Some, refl, sym, ap, subst, ◌∙◌, arith}
use Rattle.std.specs.Prelude.{ℤ, pos, flat_map, slice_index_or, unwrap_or, Option, codes}
use Rattle.std.specs.List.{AllByRecursion, Contains}
use Rattle.std.proofs.lemmas.Bool.{and_parts, eqb-true}
use Rattle.mp4_boxes.specs.format.Box.{Box, box_container}
use Rattle.mp4_boxes.specs.format.Children.{Holds, of_kind}
use Rattle.mp4_boxes.specs.format.Places.{ruled, AreSound}
use Rattle.mp4_boxes.specs.declared.rule.Rule.TheVariants as rules
use Rattle.mp4_boxes.proofs.Each.{each_kept}
use Rattle.mp4_tables.specs.format.Groups.{GroupKey, maps_of}
use Rattle.mp4_tables.specs.words.Accepted.{AreDistinct}
use Rattle.mp4_tables.specs.words.Timed.{timed}
use Rattle.mp4_frag.specs.format.Fragments.{FragmentTree, AreTrafs, TrackFragment, track_fragment_of}
use Rattle.mp4_frag.specs.format.FragmentSamples.{Part, trex_for, no_trex, runs_samples, parts_after, part_samples, has_samples, duration_of}
use Rattle.mp4_frag.specs.words.Judged.{IsPlacedWithin, IsGrouped, IsSoundMoof, end_with}
use Rattle.mp4_frag.specs.words.OwnTrafs.{PlacedTraf, placed_after, placed_in, is_own, own_in, trex_by}
use Rattle.mp4_frag.specs.words.Walks.{samples_in}
use Rattle.mp4_frag.specs.declared.state.TrackState.{TrackState}
use Rattle.mp4_frag.specs.declared.trex.Trex.{Trex}
use Rattle.mp4_frag.proofs.GroupsTied.{KeepRules}
use Rattle.mp4_frag.proofs.RunsTied.{duration_grouped}
use Rattle.mp4_frag.proofs.TrafsTied.{traf_tied}
use Rattle.mp4_tables.proofs.Counts.{groups_length}

-- ---- one of those of a `moof`

-- what a `traf` says, with these defaults, whose runs are counted from this base
abbrev pub part_from : ℤ → Trex → TrackFragment → Part
part_from base trex traf = record { id = traf.id; decode_time = traf.decode_time; runs = runs_samples trex traf base base traf.runs; groups = traf.groups }

-- one that stands in a sound `moof`
pub record IsSoundTraf (L : ℕ) (trexes : List Trex) (p : PlacedTraf) : Type 0 where
  pub boxes : List Box
  pub holds : Holds rules.TrackFragment (box_container p.traf) boxes
  pub sound : AreSound (ruled rules.TrackFragment) boxes
  pub part : p.part ≡ part_from p.base (trex_by trexes boxes) (track_fragment_of boxes)
  pub places : IsPlacedWithin L p.part
  pub groups : IsGrouped p.part

each_sound : (L : ℕ) (trexes : List Trex) (moof : ℕ) (before : ℤ) (trafs : List Box) (lists : List (List Box)) → AreTrafs trafs lists → AllByRecursion (AreSound (ruled rules.TrackFragment)) lists
    → AllByRecursion (IsPlacedWithin L) (parts_after trexes moof before (map track_fragment_of lists)) → AllByRecursion IsGrouped (parts_after trexes moof before (map track_fragment_of lists))
    → AllByRecursion (IsSoundTraf L trexes) (placed_after trexes moof before trafs lists)
each_sound L trexes moof before [] lists zip sound places groups = tt
each_sound L trexes moof before (b ∷ trafs) [] zip sound places groups = tt
each_sound L trexes moof before (b ∷ trafs) (boxes ∷ lists) zip sound places groups = (
  record { boxes = boxes; holds = zip.0; sound = sound.0; part = refl; places = places.0; groups = groups.0 },
  each_sound L trexes moof (end_with moof before (trex_by trexes boxes) (track_fragment_of boxes)) trafs lists zip.1 sound.1 places.1 groups.1,
)

at_place : {A : Type 0} (P : A → Type 0) (xs : List A) (k : ℕ) (d : A) → AllByRecursion P xs → k < length xs → P (slice_index_or xs k d)
at_place P [] k d h lt = absurd (omega arith)
at_place P (x ∷ xs) zero d h lt = h.0
at_place P (x ∷ xs) (suc k) d h lt = at_place P xs k d h.1 (omega arith)

-- what holds of each holds of one of them
pub one_among : {A : Type 0} (P : A → Type 0) (xs : List A) (x : A) → AllByRecursion P xs → Contains xs x → P x
one_among P xs x h c = subst P c.2 (at_place P xs c.0 x h c.1)

-- ---- its samples

-- by the defaults of its track
pub part_tied : (keys : List GroupKey) (L id number dts : ℕ) (base : ℤ) (b : Box) (boxes : List Box) (trex : Trex) → L < 2 ^ 64 → length keys ≤ 4 → AreDistinct keys → Holds rules.TrackFragment (box_container b) boxes → AreSound (ruled rules.TrackFragment) boxes
    → (track_fragment_of boxes).id ≡ id → IsPlacedWithin L (part_from base trex (track_fragment_of boxes)) → IsGrouped (part_from base trex (track_fragment_of boxes))
    → number + length (part_samples (part_from base trex (track_fragment_of boxes))) < 2 ^ 32 → dts + duration_of (part_samples (part_from base trex (track_fragment_of boxes))) < 2 ^ 64
    → samples_in b.payload base id trex number dts keys ≡ timed keys number dts (part_samples (part_from base trex (track_fragment_of boxes)))
part_tied keys L id number dts base b boxes trex short few distinct holds sound same places groups room fits =
    let traf = track_fragment_of boxes in
    let xs = flat_map (λ samples. samples) (runs_samples trex traf base base traf.runs) in
    let count = groups_length (maps_of (length xs) traf.groups) xs in
    let kept : KeepRules (length xs) traf.groups = subst (λ m. KeepRules m traf.groups) count groups in
    traf_tied keys L id (length xs) number dts base b boxes trex short few distinct holds sound same places kept (omega (arith, room, groups_length (maps_of (length xs) traf.groups) xs)) (omega (arith, fits, duration_grouped (maps_of (length xs) traf.groups) xs))

-- those of one of a track's own
pub own_tied : (keys : List GroupKey) (L id number dts : ℕ) (trexes : List Trex) (tracks : List TrackState) (t : FragmentTree) (p : PlacedTraf) (trex : Trex) → length keys ≤ 4 → AreDistinct keys → IsSoundMoof L trexes tracks t → Contains (own_in trexes id t) p → trex_for trexes id ≡ Some trex
    → number + length (part_samples p.part) < 2 ^ 32 → dts + duration_of (part_samples p.part) < 2 ^ 64
    → samples_in p.traf.payload p.base id trex number dts keys ≡ timed keys number dts (part_samples p.part)
own_tied keys L id number dts trexes tracks t p trex few distinct sound among known room fits =
    let all = each_sound L trexes t.moof.offset (pos t.moof.offset) (of_kind (codes "traf") t.children) t.trafs sound.tree.trafs sound.leaves sound.places sound.groups in
    let here = one_among (λ (q : PlacedTraf). IsSoundTraf L trexes q × (is_own id q ≡ true)) (own_in trexes id t) p (each_kept (IsSoundTraf L trexes) (is_own id) (placed_in trexes t) all) among in
    let s = here.0 in
    let mine = (and_parts (p.part.id == id) (has_samples p.part) here.1).0 in
    let named : (track_fragment_of s.boxes).id ≡ id = sym (ap (λ (q : Part). q.id) s.part) ∙ eqb-true p.part.id id mine in
    let defaults : trex_by trexes s.boxes ≡ trex = ap (λ n. unwrap_or (trex_for trexes n) no_trex) named ∙ ap (λ (o : Option Trex). unwrap_or o no_trex) known in
    let part : p.part ≡ part_from p.base trex (track_fragment_of s.boxes) = s.part ∙ ap (λ (x : Trex). part_from p.base x (track_fragment_of s.boxes)) defaults in
    part_tied keys L id number dts p.base p.traf s.boxes trex sound.short few distinct s.holds s.sound named (subst (IsPlacedWithin L) part s.places) (subst IsGrouped part s.groups)
    (subst (λ (q : Part). number + length (part_samples q) < 2 ^ 32) part room) (subst (λ (q : Part). dts + duration_of (part_samples q) < 2 ^ 64) part fits)
    ∙ ap (λ (q : Part). timed keys number dts (part_samples q)) (sym part)
