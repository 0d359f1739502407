-- The samples of a track in a sound `moof`, as a walk over it hands them out, are those of the definition.
use Rattle.std.proofs.Common.{◌≡◌, ℕ, suc, ◌+◌, ◌-◌, ◌*◌, ◌^◌, min, ◌<◌, ◌≤◌, ◌==◌, ◌||◌, Bool, true, false, cond, IsTrue, List, [], ◌∷◌, ◌++◌, length, drop, map, Option, Some, None, refl, sym, ap, subst, ◌∙◌, arith}
use Rattle.std.specs.Prelude.{ℤ, pos, IfSome, codes, bytes_eq, unwrap_or, is_some, flat_map}
use Rattle.std.specs.List.{AllByRecursion}
use Rattle.std.proofs.lemmas.Bool.{eqb-true}
use Rattle.std.proofs.lemmas.List.{length-append}
use Rattle.mp4_boxes.specs.format.Bytes.{AreBytes}
use Rattle.mp4_boxes.specs.format.Box.{Box, box_container, size}
use Rattle.mp4_boxes.specs.format.Children.{of_kind, payload_of, payload_if, count_among, Holds}
use Rattle.mp4_boxes.specs.format.Layout.{tfhd, trun, flags, column_values, tfhd_columns, IsReadable}
use Rattle.mp4_boxes.specs.format.Places.{ruled, AreSound}
use Rattle.mp4_boxes.specs.declared.rule.Rule.TheVariants as rule_names
use Rattle.mp4_boxes.proofs.Each.{each_weaker}
use Rattle.mp4_boxes.proofs.OfBytes.{IsOfBytes, bytes_dropped, tiled_of_bytes, payload_of_bytes, payloads_of_bytes}
use Rattle.mp4_boxes.proofs.Sound.{sound_one, sound_each}
use Rattle.mp4_tables.specs.format.Groups.{GroupKey}
use Rattle.mp4_tables.specs.format.PlainSamples.{PlacedSample}
use Rattle.mp4_tables.specs.words.Accepted.{AreDistinct}
use Rattle.mp4_tables.specs.words.Leaves.{boxes_of}
use Rattle.mp4_tables.specs.words.Timed.{timed}
use Rattle.mp4_tables.specs.declared.sample.SampleAt.{SampleAt}
use Rattle.mp4_tables.proofs.LeafLists.{boxes_are}
use Rattle.mp4_frag.specs.format.Fragments.{TrackFragment, FragmentTree, AreTrafs, column, track_fragment_of}
use Rattle.mp4_frag.specs.format.FragmentSamples.{Part, base_of, duration_of, fragment_samples, part_samples, parts_after, parts_for, trex_for, no_trex}
use Rattle.mp4_frag.specs.words.Judged.{AreMovedOn, AreTrexesOf, IsGrouped, IsMoofMovedOn, IsPlacedWithin, IsSoundMoof, is_known_among, part_with, end_with, samples_of_track, tree_of}
use Rattle.mp4_frag.specs.words.MoofWalks.{Between, InheritAlike, MoofWalk, behind_samples, head_among, head_if, headed, inheriting, runs_end_held, traf_coming, trafs_coming}
use Rattle.mp4_frag.specs.words.OwnTrafs.{trex_by}
use Rattle.mp4_frag.specs.words.Passing.{IsUpTo}
use Rattle.mp4_frag.specs.words.Reading.{inheritance}
use Rattle.mp4_frag.specs.words.RunsJudged.{children_of}
use Rattle.mp4_frag.specs.words.Times.{lasting}
use Rattle.mp4_frag.specs.words.Walks.{are_named, boxes_coming, boxes_in, capped, head_of, samples_in, trex_among}
use Rattle.mp4_frag.specs.declared.state.TrackState.{TrackState}
use Rattle.mp4_frag.specs.declared.trex.Trex.{Trex}
use Rattle.mp4_frag.proofs.Bounds.{base_up_to, up_to_more}
use Rattle.mp4_frag.proofs.BoxesMoved.{end_moved, head_moved, traf_moved, trafs_moved}
use Rattle.mp4_frag.proofs.EndsTied.{ends_tied}
use Rattle.mp4_frag.proofs.LeavesRead.{read}
use Rattle.mp4_frag.proofs.LeavesTied.{named_tied}
use Rattle.mp4_frag.proofs.OwnTrexes.{Agree, agree_of}
use Rattle.mp4_frag.proofs.OwnTied.{part_tied}
use Rattle.mp4_frag.proofs.MoofExcludes.{next_part}
use Rattle.mp4_frag.proofs.MoofSteps.{none_behind}
use Rattle.mp4_frag.proofs.Ranges.{trafs_of_bytes, value_below}
use Rattle.mp4_frag.proofs.SeenLists.{trex_kept}
use Rattle.mp4_frag.proofs.RunsTied.{duration-append, timed-append}
use Rattle.mp4_frag.proofs.TrafsTied.{inside_is, some_known, trex_found}
use Rattle.mp4_boxes.proofs.ChildrenJudged.{length_few}
use Rattle.mp4_tables.proofs.SampleLists.{timed_length}

-- ---- timed samples

timed_lasts : (keys : List GroupKey) (number dts : ℕ) (xs : List PlacedSample) → lasting (timed keys number dts xs) ≡ duration_of xs
timed_lasts keys number dts [] = refl
timed_lasts keys number dts (x ∷ xs) = ap (λ n. x.duration + n) (timed_lasts keys (number + 1) (dts + x.duration) xs)

-- ---- the `tfhd`

head_before : (before : Option TrackFragment) (boxes : List Box) → count_among (codes "tfhd" ∷ []) boxes ≡ 0 → head_among before boxes ≡ before
head_before before [] n = refl
head_before before (b ∷ boxes) n = choice (bytes_eq (codes "tfhd") b.kind) n (head_before before boxes)
  where
    choice : (u : Bool) → (cond (u || false) 1 0) + count_among (codes "tfhd" ∷ []) boxes ≡ 0 → (count_among (codes "tfhd" ∷ []) boxes ≡ 0 → head_among before boxes ≡ before)
        → head_among (cond u (head_if b.payload) before) boxes ≡ before
    choice true m more = absurd (omega (arith, m))
    choice false m more = more (omega (arith, m))

-- the one that there is
head_one : (before : Option TrackFragment) (boxes : List Box) → count_among (codes "tfhd" ∷ []) boxes ≡ 1 → head_among before boxes ≡ head_if (payload_of (codes "tfhd") boxes)
head_one before [] n = absurd (omega (arith, n))
head_one before (b ∷ boxes) n = choice (bytes_eq (codes "tfhd") b.kind) n (head_one before boxes)
  where
    choice : (u : Bool) → (cond (u || false) 1 0) + count_among (codes "tfhd" ∷ []) boxes ≡ 1 → (count_among (codes "tfhd" ∷ []) boxes ≡ 1 → head_among before boxes ≡ head_if (payload_of (codes "tfhd") boxes))
        → head_among (cond u (head_if b.payload) before) boxes ≡ head_if (unwrap_or (cond u (Some b.payload) (payload_if (codes "tfhd") boxes)) [])
    choice true m more = head_before (head_if b.payload) boxes (omega (arith, m))
    choice false m more = more (omega (arith, m))

-- behind them
behind_timed : (keys : List GroupKey) (number dts : ℕ) (xs : List PlacedSample) (ends : ℤ) → number + length xs < 2 ^ 32 → dts + duration_of xs < 2 ^ 64
    → behind_samples number dts (timed keys number dts xs) ends ≡ record { number = number + length xs; dts = dts + duration_of xs; before = ends }
behind_timed keys number dts xs ends room fits =
    let count : min (number + length (timed keys number dts xs)) (2 ^ 32 - 1) ≡ number + length xs = omega (arith, room, timed_length keys number dts xs) in
    let time : capped (dts + lasting (timed keys number dts xs)) ≡ dts + duration_of xs = omega (arith, fits, timed_lasts keys number dts xs) in
    λ i. record { number = count i; dts = time i; before = ends }

-- ---- one `traf`

-- what a walk and the definition both go by
pub record IsReady (w : MoofWalk) (L : ℕ) (trexes : List Trex) : Type 0 where
  pub short : L < 2 ^ 64
  pub moof : w.moof < 2 ^ 64
  pub defaults : (id : ℕ) (trex : Trex) → trex_among w.tracks id ≡ Some trex → trex_for trexes id ≡ Some trex
  pub few : length w.keys ≤ 4
  pub distinct : AreDistinct w.keys

-- the boxes of a `traf` are bytes, sound, of a known track, and their samples lie in the file
record IsPlainTraf (w : MoofWalk) (L : ℕ) (trexes : List Trex) (at : ℤ) (b : Box) (boxes : List Box) : Type 0 where
  holds : Holds rule_names.TrackFragment (box_container b) boxes
  bytes : AllByRecursion IsOfBytes boxes
  sound : AreSound (ruled rule_names.TrackFragment) boxes
  known : IsTrue (is_some (trex_among w.tracks (track_fragment_of boxes).id))
  places : IsPlacedWithin L (part_with w.moof at (trex_by trexes boxes) (track_fragment_of boxes))
  groups : IsGrouped (part_with w.moof at (trex_by trexes boxes) (track_fragment_of boxes))

base_fits : (n : ℕ) (o : Option ℕ) → 2 ^ 64 ≤ n → IfSome o (λ at. at < 2 ^ 64) → IfSome o (λ at. at ≤ n)
base_fits n None big h = tt
base_fits n (Some at) big h = omega (arith, big, h)

-- so are those of some `traf`s, behind data that ends at a place
pub record ArePlain (w : MoofWalk) (L : ℕ) (trexes : List Trex) (at : ℤ) (lists : List (List Box)) : Type 0 where
  pub bytes : AllByRecursion (AllByRecursion IsOfBytes) lists
  pub sound : AllByRecursion (AreSound (ruled rule_names.TrackFragment)) lists
  pub known : AllByRecursion (λ (part : Part). IsTrue (is_known_among w.tracks part)) (parts_after trexes w.moof at (map track_fragment_of lists))
  pub places : AllByRecursion (IsPlacedWithin L) (parts_after trexes w.moof at (map track_fragment_of lists))
  pub groups : AllByRecursion IsGrouped (parts_after trexes w.moof at (map track_fragment_of lists))

module _ (w : MoofWalk) (L : ℕ) (trexes : List Trex) (ready : IsReady w L trexes) where
  known_trex : (at : ℤ) (b : Box) (boxes : List Box) → IsPlainTraf w L trexes at b boxes → trex_among w.tracks (track_fragment_of boxes).id ≡ Some (trex_by trexes boxes)
  known_trex at b boxes p =
      let k = some_known (trex_among w.tracks (track_fragment_of boxes).id) p.known in
      let f = ready.defaults (track_fragment_of boxes).id k.0 k.1 in
      k.1 ∙ ap Some (ap (λ (o : Option Trex). unwrap_or o no_trex) (sym f))

  one_head : (at : ℤ) (b : Box) (boxes : List Box) → IsPlainTraf w L trexes at b boxes → IsReadable tfhd (payload_of (codes "tfhd") boxes)
  one_head at b boxes p = (sound_one (ruled rule_names.TrackFragment) (codes "tfhd") tfhd refl boxes p.sound p.holds.quantities.0).readable

  -- what its `tfhd` says
  head_tied : (at : ℤ) (b : Box) (boxes : List Box) → IsPlainTraf w L trexes at b boxes → head_among None (boxes_in 0 b.payload) ≡ Some (head_of (payload_of (codes "tfhd") boxes))
  head_tied at b boxes p =
      let there = read tfhd (payload_of (codes "tfhd") boxes) (one_head at b boxes p) in
      head_moved None (length b.payload) 0 (b.offset + b.header) b.payload ∙ ap (head_among None) (inside_is b boxes p.holds) ∙ head_one None boxes p.holds.quantities.0 ∙ rw there refl

  -- where its runs are counted from
  base_near : (n : ℕ) (at : ℤ) (b : Box) (boxes : List Box) → IsPlainTraf w L trexes at b boxes → 2 ^ 64 ≤ n → IsUpTo n at → IsUpTo n (base_of w.moof at (track_fragment_of boxes))
  base_near n at b boxes p big up =
      let head = payload_of (codes "tfhd") boxes in
      let moof = ready.moof in
      base_up_to n w.moof at (track_fragment_of boxes) (omega (arith, moof, big))
      (base_fits n (column (column_values (flags head) tfhd_columns (drop 8 head)) 0) big (value_below tfhd_columns (flags head) (drop 8 head) 0 (bytes_dropped 8 head (payload_of_bytes (codes "tfhd") boxes p.bytes)))) up

  -- where its data ends
  end_tied : (n : ℕ) (at : ℤ) (b : Box) (boxes : List Box) → IsPlainTraf w L trexes at b boxes → 2 ^ 64 ≤ n → n + 2 ^ 31 ≤ 2 ^ 100 → IsUpTo n at
      → (runs_end_held (inheritance (track_fragment_of boxes) (trex_by trexes boxes)).size (base_of w.moof at (track_fragment_of boxes)) (base_of w.moof at (track_fragment_of boxes)) (boxes_in 0 b.payload) ≡ end_with w.moof at (trex_by trexes boxes) (track_fragment_of boxes))
      × IsUpTo (n + 2 ^ 31) (end_with w.moof at (trex_by trexes boxes) (track_fragment_of boxes))
  end_tied n at b boxes p big small up =
      let traf = track_fragment_of boxes in
      let trex = trex_by trexes boxes in
      let base = base_of w.moof at traf in
      let near = base_near n at b boxes p big up in
      let runs = sound_each (ruled rule_names.TrackFragment) (codes "trun") trun refl boxes p.sound in
      let ends = ends_tied L n traf trex base boxes ready.short big small near base runs (payloads_of_bytes (codes "trun") boxes p.bytes) p.places (up_to_more n (n + 2 ^ 31) base (omega arith) near) in (
        end_moved (inheritance traf trex).size base base (length b.payload) 0 (b.offset + b.header) b.payload ∙ ap (runs_end_held (inheritance traf trex).size base base) (inside_is b boxes p.holds) ∙ ends.0,
        ends.1,
      )

  -- with those behind it
  traf_tied : (n : ℕ) (s : Between) (b : Box) (boxes : List Box) (more : Between → List SampleAt) (samples : List SampleAt) → IsPlainTraf w L trexes s.before b boxes → 2 ^ 64 ≤ n → n + 2 ^ 31 ≤ 2 ^ 100 → IsUpTo n s.before
      → samples_in b.payload (base_of w.moof s.before (track_fragment_of boxes)) w.id (trex_by trexes boxes) s.number s.dts w.keys ≡ samples
      → traf_coming w s b.payload more ≡ samples ++ more (behind_samples s.number s.dts samples (end_with w.moof s.before (trex_by trexes boxes) (track_fragment_of boxes)))
  traf_tied n s b boxes more samples p big small up e =
      let head = head_of (payload_of (codes "tfhd") boxes) in
      let end = (end_tied n s.before b boxes p big small up).0 in
      ap (headed w s b.payload more) (head_tied s.before b boxes p)
      ∙ ap (inheriting w s b.payload more head) (known_trex s.before b boxes p)
      ∙ (λ i. e i ++ more (behind_samples s.number s.dts (e i) (end i)))

  -- of the track, and of another one
  own_tied : (s : Between) (b : Box) (boxes : List Box) → IsPlainTraf w L trexes s.before b boxes → (track_fragment_of boxes).id ≡ w.id
      → s.number + length (part_samples (part_with w.moof s.before (trex_by trexes boxes) (track_fragment_of boxes))) < 2 ^ 32 → s.dts + duration_of (part_samples (part_with w.moof s.before (trex_by trexes boxes) (track_fragment_of boxes))) < 2 ^ 64
      → samples_in b.payload (base_of w.moof s.before (track_fragment_of boxes)) w.id (trex_by trexes boxes) s.number s.dts w.keys ≡ timed w.keys s.number s.dts (part_samples (part_with w.moof s.before (trex_by trexes boxes) (track_fragment_of boxes)))
  own_tied s b boxes p same room fits =
      part_tied w.keys L w.id s.number s.dts (base_of w.moof s.before (track_fragment_of boxes)) b boxes (trex_by trexes boxes) ready.short ready.few ready.distinct p.holds p.sound same p.places p.groups room fits

  other_tied : (s : Between) (b : Box) (boxes : List Box) → IsPlainTraf w L trexes s.before b boxes → ((track_fragment_of boxes).id == w.id) ≡ false
      → samples_in b.payload (base_of w.moof s.before (track_fragment_of boxes)) w.id (trex_by trexes boxes) s.number s.dts w.keys ≡ []
  other_tied s b boxes p apart =
      let named : are_named w.id false boxes ≡ false = named_tied w.id boxes p.holds.quantities.0 (one_head s.before b boxes p) ∙ apart in
      traf_moved (base_of w.moof s.before (track_fragment_of boxes)) w.id (trex_by trexes boxes) s.number s.dts w.keys 0 (b.offset + b.header) b.payload
      ∙ ap (boxes_coming (base_of w.moof s.before (track_fragment_of boxes)) w.id (trex_by trexes boxes) s.number s.dts w.keys) (inside_is b boxes p.holds)
      ∙ rw named refl

  -- ---- all `traf`s

  abbrev parts_at : ℤ → List (List Box) → List Part
  parts_at at lists = parts_after trexes w.moof at (map track_fragment_of lists)

  abbrev AllTied : List Box → List Box → Type 0
  AllTied children trafs =
      (lists : List (List Box)) (s : Between) (n : ℕ) → AreTrafs trafs lists → ArePlain w L trexes s.before lists → IsUpTo n s.before → 2 ^ 64 ≤ n → n + 2 ^ 31 * suc (length lists) ≤ 2 ^ 100
      → s.number + length (fragment_samples w.id (parts_at s.before lists)) < 2 ^ 32 → s.dts + duration_of (fragment_samples w.id (parts_at s.before lists)) < 2 ^ 64
      → trafs_coming w s children ≡ timed w.keys s.number s.dts (fragment_samples w.id (parts_at s.before lists))

  none_tied : AllTied [] []
  none_tied [] s n zip plain up big small room fits = refl
  none_tied (boxes ∷ lists) s n zip plain up big small room fits = absurd zip

  -- what a `traf` says, where its data ends, and its samples with those behind it, if it is the track's own
  abbrev part_here : Between → List Box → Part
  part_here s boxes = part_with w.moof s.before (trex_by trexes boxes) (track_fragment_of boxes)

  abbrev end_here : Between → List Box → ℤ
  end_here s boxes = end_with w.moof s.before (trex_by trexes boxes) (track_fragment_of boxes)

  abbrev here_and_behind : Bool → Between → List Box → List (List Box) → List PlacedSample
  here_and_behind v s boxes lists =
      let later = parts_for w.id (parts_at (end_here s boxes) lists) in
      flat_map part_samples (cond v (part_here s boxes ∷ later) later)

  -- a `traf` with those behind it, by whether it is the track's own
  tied_by : (b : Box) (children trafs boxes : List Box) (lists : List (List Box)) (s : Between) (n : ℕ) (v : Bool) → ((track_fragment_of boxes).id == w.id) ≡ v → AllTied children trafs → IsPlainTraf w L trexes s.before b boxes → AreTrafs trafs lists
      → ArePlain w L trexes (end_here s boxes) lists → IsUpTo n s.before → 2 ^ 64 ≤ n → n + 2 ^ 31 * suc (suc (length lists)) ≤ 2 ^ 100
      → s.number + length (here_and_behind v s boxes lists) < 2 ^ 32
      → s.dts + duration_of (here_and_behind v s boxes lists) < 2 ^ 64
      → traf_coming w s b.payload (λ t. trafs_coming w t children)
      ≡ timed w.keys s.number s.dts (here_and_behind v s boxes lists)
  tied_by b children trafs boxes lists s n true e others p zip plain up big small room fits =
      let part = part_here s boxes in
      let end = end_here s boxes in
      let xs = part_samples part in
      let later = fragment_samples w.id (parts_at end lists) in
      let count = length-append xs later in
      let sum = duration-append xs later in
      let few : n + 2 ^ 31 ≤ 2 ^ 100 = omega (arith, small) in
      let here = own_tied s b boxes p (eqb-true (track_fragment_of boxes).id w.id e) (omega (arith, room, count)) (omega (arith, fits, sum)) in
      let near = (end_tied n s.before b boxes p big few up).1 in
      let to : Between = record { number = s.number + length xs; dts = s.dts + duration_of xs; before = end } in
      traf_tied n s b boxes (λ t. trafs_coming w t children) (timed w.keys s.number s.dts xs) p big few up here
      ∙ ap (λ (t : Between). timed w.keys s.number s.dts xs ++ trafs_coming w t children) (behind_timed w.keys s.number s.dts xs end (omega (arith, room, count)) (omega (arith, fits, sum)))
      ∙ ap (λ (ss : List SampleAt). timed w.keys s.number s.dts xs ++ ss) (others lists to (n + 2 ^ 31) zip plain near (omega (arith, big)) (omega (arith, small)) (omega (arith, room, count)) (omega (arith, fits, sum)))
      ∙ sym (timed-append w.keys s.number s.dts xs later)
  tied_by b children trafs boxes lists s n false e others p zip plain up big small room fits =
      let end = end_here s boxes in
      let few : n + 2 ^ 31 ≤ 2 ^ 100 = omega (arith, small) in
      let near = (end_tied n s.before b boxes p big few up).1 in
      traf_tied n s b boxes (λ t. trafs_coming w t children) [] p big few up (other_tied s b boxes p e)
      ∙ ap (λ (t : Between). trafs_coming w t children) (none_behind s.number s.dts [] end refl (omega (arith, room)) (omega (arith, fits)))
      ∙ others lists (record { number = s.number; dts = s.dts; before = end }) (n + 2 ^ 31) zip plain near (omega (arith, big)) (omega (arith, small)) room fits

  -- one more box of the `moof`
  tied_more : (b : Box) (children trafs : List Box) (v : Bool) → bytes_eq (codes "traf") b.kind ≡ v → AllTied children trafs → AllTied (b ∷ children) (cond v (b ∷ trafs) trafs)
  tied_more b children trafs false e others lists s n zip plain up big small room fits = rw e (others lists s n zip plain up big small room fits)
  tied_more b children trafs true e others [] s n zip plain up big small room fits = absurd zip
  tied_more b children trafs true e others (boxes ∷ lists) s n zip plain up big small room fits =
      let here : IsPlainTraf w L trexes s.before b boxes = record { holds = zip.0; bytes = plain.bytes.0; sound = plain.sound.0; known = plain.known.0; places = plain.places.0; groups = plain.groups.0 } in
      let rest : ArePlain w L trexes (end_here s boxes) lists = record { bytes = plain.bytes.1; sound = plain.sound.1; known = plain.known.1; places = plain.places.1; groups = plain.groups.1 } in
      rw e (tied_by b children trafs boxes lists s n ((track_fragment_of boxes).id == w.id) refl others here zip.1 rest up big small room fits)

  pub trafs_tied : (children : List Box) → AllTied children (of_kind (codes "traf") children)
  trafs_tied [] = none_tied
  trafs_tied (b ∷ children) = tied_more b children (of_kind (codes "traf") children) (bytes_eq (codes "traf") b.kind) refl (trafs_tied children)

-- ---- a `moof`

kept_by : (b : Box) (boxes kept : List Box) (v : Bool) → length kept ≤ length boxes → length (cond v (b ∷ kept) kept) ≤ suc (length boxes)
kept_by b boxes kept true h = omega (arith, h)
kept_by b boxes kept false h = omega (arith, h)

kept_few : (kind : List ℕ) (boxes : List Box) → length (of_kind kind boxes) ≤ length boxes
kept_few kind [] = omega arith
kept_few kind (b ∷ boxes) = kept_by b boxes (of_kind kind boxes) (bytes_eq kind b.kind) (kept_few kind boxes)

trafs_count : (trafs : List Box) (lists : List (List Box)) → AreTrafs trafs lists → length lists ≤ length trafs
trafs_count [] [] z = omega arith
trafs_count [] (boxes ∷ lists) z = absurd z
trafs_count (b ∷ trafs) [] z = omega arith
trafs_count (b ∷ trafs) (boxes ∷ lists) z = omega (arith, trafs_count trafs lists z.1)

moof_boxes : (t : FragmentTree) → boxes_of t.moof ≡ t.children → boxes_in (t.moof.offset + t.moof.header) t.moof.payload ≡ t.children
unfolding boxes_of
moof_boxes t e = e

-- where the tracks were moved on by `traf`s, there was room for the samples of each
own_few : (id : ℕ) (part : Part) (parts : List Part) → length (fragment_samples id (part ∷ parts)) ≤ length (part_samples part) + length (fragment_samples id parts)
own_few id part parts = choice (part.id == id)
  where
    choice : (v : Bool) → length (flat_map part_samples (cond v (part ∷ parts_for id parts) (parts_for id parts))) ≤ length (part_samples part) + length (fragment_samples id parts)
    choice true = omega (arith, length-append (part_samples part) (fragment_samples id parts))
    choice false = omega arith

few_moved : (trexes : List Trex) (id moof : ℕ) (before : ℤ) (trafs : List Box) (old new : List TrackState) (room less : ℕ) → Agree trexes old → AreMovedOn moof before trafs old new room less
    → length (fragment_samples id (parts_after trexes moof before (map track_fragment_of (map children_of trafs)))) ≤ room
few_moved trexes id moof before [] old new room less agree moved = omega arith
few_moved trexes id moof before (b ∷ trafs) old new room less agree moved =
    let between = moved.0 in
    let rest = moved.1 in
    let m = moved.2.0 in
    let traf = track_fragment_of (children_of b) in
    let part = part_with moof before m.trex traf in
    let later = map track_fragment_of (map children_of trafs) in
    let parts = next_part trexes moof before (children_of b) old between room rest later agree m in
    let on : Agree trexes between = λ other trex e. agree other trex (sym (trex_kept other old between m.place m.track part m.there m.moved) ∙ e) in
    let more = few_moved trexes id moof (end_with moof before m.trex traf) trafs between new rest less on moved.2.1 in
    omega (arith, ap (λ (ps : List Part). length (fragment_samples id ps)) parts, own_few id part (parts_after trexes moof (end_with moof before m.trex traf) later), more, m.taken)

pub moof_few : (trexes : List Trex) (id : ℕ) (moof : Box) (states after : List TrackState) (room less : ℕ) → AreTrexesOf trexes states → IsMoofMovedOn moof states after room less → length (samples_of_track trexes id (tree_of moof)) ≤ room
moof_few trexes id moof states after room less defaults moved = few_moved trexes id moof.offset (pos moof.offset) (of_kind (codes "traf") (children_of moof)) states after room less (agree_of trexes states defaults) moved

-- the samples of a track, from a decode time on, where its tracks inherit what those did with which it was accepted
pub moof_tied : (L : ℕ) (trexes : List Trex) (states tracks : List TrackState) (t : FragmentTree) (id dts : ℕ) (keys : List GroupKey) → t.moof.offset < 2 ^ 64 → length t.moof.payload < 2 ^ 64 → AreBytes t.moof.payload → length keys ≤ 4 → AreDistinct keys
    → IsSoundMoof L trexes states t → AreTrexesOf trexes states → InheritAlike states tracks → length (samples_of_track trexes id t) < 2 ^ 32 → dts + duration_of (samples_of_track trexes id t) < 2 ^ 64
    → trafs_coming (record { moof = t.moof.offset; tracks = tracks; id = id; keys = keys }) (record { number = 0; dts = dts; before = pos t.moof.offset }) (boxes_in 0 t.moof.payload) ≡ timed keys 0 dts (samples_of_track trexes id t)
moof_tied L trexes states tracks t id dts keys early small bytes few distinct sound defaults alike room fits =
    let w : MoofWalk = record { moof = t.moof.offset; tracks = tracks; id = id; keys = keys } in
    let first : Between = record { number = 0; dts = dts; before = pos t.moof.offset } in
    let tree = sound.tree in
    let tiles = tree.children.tiles in
    let trafs = of_kind (codes "traf") t.children in
    let children = tiled_of_bytes (box_container t.moof) t.children bytes tiles in
    let full = tiles.full in
    let many = length_few false (t.moof.offset + t.moof.header) t.moof.payload t.children tiles.front.0 in
    let kept = kept_few (codes "traf") t.children in
    let count = trafs_count trafs t.trafs tree.trafs in
    let ready : IsReady w L trexes = record { short = sound.short; moof = early; defaults = λ other trex e. trex_found trexes states other trex defaults (sym (alike other) ∙ e); few = few; distinct = distinct } in
    let parts = parts_after trexes t.moof.offset (pos t.moof.offset) (map track_fragment_of t.trafs) in
    let known = each_weaker (λ (part : Part). IsTrue (is_known_among states part)) (λ (part : Part). IsTrue (is_known_among tracks part)) (λ part h. subst (λ (o : Option Trex). IsTrue (is_some o)) (sym (alike part.id)) h) parts sound.known in
    trafs_moved w first (length t.moof.payload) 0 (t.moof.offset + t.moof.header) t.moof.payload
    ∙ ap (trafs_coming w first) (moof_boxes t (boxes_are t.moof t.children tiles))
    ∙ trafs_tied w L trexes ready t.children t.trafs first (2 ^ 64) tree.trafs
    (record { bytes = trafs_of_bytes trafs t.trafs (payloads_of_bytes (codes "traf") t.children children) tree.trafs; sound = sound.leaves; known = known; places = sound.places; groups = sound.groups })
    (omega (arith, early)) (omega arith) (omega (arith, small, full, many, kept, count)) (omega (arith, room)) fits
