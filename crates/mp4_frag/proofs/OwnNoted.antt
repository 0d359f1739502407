-- The `traf`s of a `moof` are noted one by one, each at its track.
use Rattle.std.proofs.Common.{◌≡◌, ℕ, zero, suc, ◌+◌, ◌<◌, ◌==◌, ◌&&◌, nat_lt, max, Bool, true, false, cond, List, [], ◌∷◌, length, map, slice_set, slice_index_or, Option, Some, None, refl, sym, ap, subst, ◌∙◌, arith}
use Rattle.std.specs.Prelude.{ℤ, pos, filter, find, unwrap_or, option_map, IfSome, if◌then◌else◌, codes, bytes_eq, slice_get}
use Rattle.std.specs.List.{AllByRecursion}
use Rattle.std.proofs.lemmas.Bool.{eqb-true}
use Rattle.std.proofs.lemmas.Bool.Decides.{nat_tests}
use Rattle.std.proofs.lemmas.List.{append_assoc, append-nil}
use Rattle.mp4_boxes.specs.format.Box.{Box}
use Rattle.mp4_boxes.specs.format.Children.{of_kind, payload_of}
use Rattle.mp4_frag.specs.format.Fragments.{TrackFragment, track_fragment_of}
use Rattle.mp4_frag.specs.format.FragmentSamples.{trex_for, no_trex, base_of, has_samples, part_samples}
use Rattle.mp4_frag.specs.words.Judged.{AreTrexesOf, IsTrafSound, part_with, end_with, tree_of}
use Rattle.mp4_frag.specs.words.Noted.{with_note, noted_at, noted_if, note_if, ids_of, IsNotable}
use Rattle.mp4_frag.specs.words.OwnTrafs.{OwnSeen, AreApart, PlacedTraf, placed_with, trex_by, placed_after, placed_in, is_own, own_in, note_of, longest_of, with_notes, noted_in}
use Rattle.mp4_frag.specs.words.Reading.{IsHead, as_traf}
use Rattle.mp4_frag.specs.words.RunsJudged.{children_of, runs_total}
use Rattle.mp4_frag.specs.words.Tracking.{WhereNoted}
use Rattle.mp4_frag.specs.words.Walks.{head_of, trex_among}
use Rattle.mp4_frag.specs.declared.check.PassedTraf.{PassedTraf}
use Rattle.mp4_frag.specs.declared.heads.TrafHead.{TrafHead}
use Rattle.mp4_frag.specs.declared.next_traf.OwnTraf.{OwnTraf}
use Rattle.mp4_frag.specs.declared.state.TrackState.{TrackState}
use Rattle.mp4_frag.specs.declared.trex.Trex.{Trex}
use Rattle.mp4_frag.proofs.Comings.{turned}
use Rattle.mp4_frag.proofs.LeavesRead.{head_is}
use Rattle.mp4_frag.proofs.PartReasons.{part_counts}
use Rattle.mp4_frag.proofs.TrafPassed.{payload_is}
use Rattle.mp4_frag.proofs.TrafsTied.{trex_found}
use Rattle.mp4_frag.proofs.MoofExcludes.{same_some}
use Rattle.mp4_frag.proofs.MoofPassed.{traf_kept}

-- ---- lists of notes

-- the notes of each track with those of its own among these `traf`s
abbrev pub noted_all : List PlacedTraf → List TrackState → List OwnSeen → List OwnSeen
noted_all placed (s ∷ states) (o ∷ owns) = with_notes (filter (is_own s.id) placed) o ∷ noted_all placed states owns
noted_all placed states owns = owns

pub noted_in_is : (trexes : List Trex) (moof : Box) (states : List TrackState) (owns : List OwnSeen) → noted_all (placed_in trexes (tree_of moof)) states owns ≡ noted_in trexes (tree_of moof) states owns
noted_in_is trexes moof [] owns = refl
noted_in_is trexes moof (s ∷ states) [] = refl
noted_in_is trexes moof (s ∷ states) (o ∷ owns) = ap (λ (os : List OwnSeen). with_notes (own_in trexes s.id (tree_of moof)) o ∷ os) (noted_in_is trexes moof states owns)

no_notes : (o : OwnSeen) → with_notes [] o ≡ o
no_notes o =
    let trafs = append-nil o.trafs in
    let longest : max o.longest 0 ≡ o.longest = omega arith in
    λ i. record { trafs = trafs i; longest = longest i }

-- none is left to note
pub none_noted : (states : List TrackState) (owns : List OwnSeen) → noted_all [] states owns ≡ owns
none_noted [] owns = refl
none_noted (s ∷ states) [] = refl
none_noted (s ∷ states) (o ∷ owns) = λ i. no_notes o i ∷ none_noted states owns i

-- ---- one more

pub not_own : (placed : List PlacedTraf) (q : PlacedTraf) (id : ℕ) → is_own id q ≡ false → filter (is_own id) placed ≡ filter (is_own id) (q ∷ placed)
not_own placed q id e = rw e refl

-- it is of none of the tracks
none_of_them : (placed : List PlacedTraf) (q : PlacedTraf) (states : List TrackState) (owns : List OwnSeen) → AllByRecursion (λ (s : TrackState). is_own s.id q ≡ false) states → noted_all placed states owns ≡ noted_all (q ∷ placed) states owns
none_of_them placed q [] owns h = refl
none_of_them placed q (s ∷ states) [] h = refl
none_of_them placed q (s ∷ states) (o ∷ owns) h =
    let here = not_own placed q s.id h.0 in
    let more = none_of_them placed q states owns h.1 in
    λ i. with_notes (here i) o ∷ more i

no_samples : (q : PlacedTraf) (states : List TrackState) → has_samples q.part ≡ false → AllByRecursion (λ (s : TrackState). is_own s.id q ≡ false) states
no_samples q [] e = tt
no_samples q (s ∷ states) e = (ap (λ v. (q.part.id == s.id) && v) e ∙ neither (q.part.id == s.id), no_samples q states e)
  where
    neither : (v : Bool) → (v && false) ≡ false
    neither true = refl
    neither false = refl

other_id : (q : PlacedTraf) (id : ℕ) → (q.part.id == id) ≡ false → is_own id q ≡ false
other_id q id e = ap (λ v. v && has_samples q.part) e

pub others_ids : (q : PlacedTraf) (id : ℕ) (states : List TrackState) → id ≡ q.part.id → AllByRecursion (λ (s : TrackState). (s.id == id) ≡ false) states → AllByRecursion (λ (s : TrackState). is_own s.id q ≡ false) states
others_ids q id [] e h = tt
others_ids q id (s ∷ states) e h =
    let apart = h.0 in
    let other : (q.part.id == s.id) ≡ false = grind (arith, nat_tests) in
    (other_id q s.id other, others_ids q id states e h.1)

-- one of them is among these
found_apart : (id wanted k : ℕ) (states : List TrackState) → slice_get (ids_of states) k ≡ Some wanted → AllByRecursion (λ (s : TrackState). (s.id == id) ≡ false) states → (wanted == id) ≡ false
found_apart id wanted k [] e h = absurd cc
found_apart id wanted zero (s ∷ states) e h = let same : s.id ≡ wanted = cc in ap (λ n. n == id) (sym same) ∙ h.0
found_apart id wanted (suc k) (s ∷ states) e h = found_apart id wanted k states e h.1

joined : (q : PlacedTraf) (placed : List PlacedTraf) (o : OwnSeen) → with_notes placed (with_note (note_of q) o) ≡ with_notes (q ∷ placed) o
joined q placed o =
    let trafs = append_assoc o.trafs (note_of q ∷ []) (map note_of placed) in
    let longest : max (max o.longest (length q.traf.payload)) (longest_of placed) ≡ max o.longest (max (length q.traf.payload) (longest_of placed)) = omega arith in
    λ i. record { trafs = trafs i; longest = longest i }

its_own : (placed : List PlacedTraf) (q : PlacedTraf) (id : ℕ) (o : OwnSeen) → is_own id q ≡ true → with_notes (filter (is_own id) placed) (with_note (note_of q) o) ≡ with_notes (filter (is_own id) (q ∷ placed)) o
its_own placed q id o e = rw e (joined q (filter (is_own id) placed) o)

-- it is noted at its track
noted_one : (placed : List PlacedTraf) (q : PlacedTraf) (k : ℕ) (states : List TrackState) (owns : List OwnSeen) → has_samples q.part ≡ true → AreApart states → length owns ≡ length states → slice_get (ids_of states) k ≡ Some q.part.id
    → noted_all placed states (noted_at k (note_of q) owns) ≡ noted_all (q ∷ placed) states owns
noted_one placed q k [] owns has apart long e = absurd cc
noted_one placed q k (s ∷ states) [] has apart long e = absurd (omega (arith, long))
noted_one placed q zero (s ∷ states) (o ∷ owns) has apart long e =
    let same : s.id ≡ q.part.id = cc in
    let test : (q.part.id == s.id) ≡ true = grind (arith, nat_tests) in
    let own : is_own s.id q ≡ true = (λ i. test i && has i) in
    let here = its_own placed q s.id o own in
    let more = none_of_them placed q states owns (others_ids q s.id states same apart.0) in
    λ i. here i ∷ more i
noted_one placed q (suc k) (s ∷ states) (o ∷ owns) has apart long e =
    let here = not_own placed q s.id (other_id q s.id (found_apart s.id q.part.id k states e apart.0)) in
    let more = noted_one placed q k states owns has apart.1 (omega (arith, long)) e in
    λ i. with_notes (here i) o ∷ more i

-- if it has samples
noted_where : (placed : List PlacedTraf) (q : PlacedTraf) (k : ℕ) (states : List TrackState) (owns : List OwnSeen) (v : Bool) → has_samples q.part ≡ v → AreApart states → length owns ≡ length states → slice_get (ids_of states) k ≡ Some q.part.id
    → noted_all placed states (noted_if k (cond v (Some (note_of q)) None) owns) ≡ noted_all (q ∷ placed) states owns
noted_where placed q k states owns true has apart long e = noted_one placed q k states owns has apart long e
noted_where placed q k states owns false has apart long e = none_of_them placed q states owns (no_samples q states has)

-- ---- the `traf`s of a `moof`

abbrev placed_from : List Trex → ℕ → ℤ → List Box → List PlacedTraf
placed_from trexes moof before trafs = placed_after trexes moof before trafs (map children_of trafs)

-- ---- where it is told what is noted

pub noted_with : (a b : Option (List OwnSeen)) (P Q : List OwnSeen → List OwnSeen → Type 0) → ((xs ys : List OwnSeen) → P xs ys → Q xs ys) → WhereNoted a b P → WhereNoted a b Q
noted_with a None P Q f h = tt
noted_with None (Some ys) P Q f h = absurd h
noted_with (Some xs) (Some ys) P Q f h = f xs ys h

noted_both : (a b : Option (List OwnSeen)) (P Q : List OwnSeen → List OwnSeen → Type 0) → WhereNoted a b P → WhereNoted a b Q → WhereNoted a b (λ xs ys. P xs ys × Q xs ys)
noted_both a None P Q p q = tt
noted_both None (Some ys) P Q p q = absurd p
noted_both (Some xs) (Some ys) P Q p q = (p, q)

noted_then : (a b c : Option (List OwnSeen)) (P Q R : List OwnSeen → List OwnSeen → Type 0) → ((xs ys zs : List OwnSeen) → P xs ys → Q ys zs → R xs zs) → WhereNoted a b P → WhereNoted b c Q → WhereNoted a c R
noted_then a b None P Q R f p q = tt
noted_then a None (Some zs) P Q R f p q = absurd q
noted_then None (Some ys) (Some zs) P Q R f p q = absurd p
noted_then (Some xs) (Some ys) (Some zs) P Q R f p q = f xs ys zs p q

-- as many tracks have notes
at_long : (place : ℕ) (note : OwnTraf) (owns : List OwnSeen) → length (noted_at place note owns) ≡ length owns
at_long place note [] = refl
at_long zero note (o ∷ owns) = refl
at_long (suc place) note (o ∷ owns) = ap suc (at_long place note owns)

if_long : (place : ℕ) (note : Option OwnTraf) (owns : List OwnSeen) → length (noted_if place note owns) ≡ length owns
if_long place None owns = refl
if_long place (Some note) owns = at_long place note owns

-- Of all boxes these are left; those passed are noted.
pub record NotesSeen (moof : ℕ) (first : List TrackState) (all left : List Box) (before : ℤ) (tracks : List TrackState) (owns now : Option (List OwnSeen)) : Type 0 where
  pub ids : ids_of tracks ≡ ids_of first
  pub each : WhereNoted owns now (λ os ns. length ns ≡ length os)
  pub notes : (trexes : List Trex) → AreTrexesOf trexes first → AreApart first
      → WhereNoted owns now
      (λ os ns. length os ≡ length first → noted_all (placed_from trexes moof before (of_kind (codes "traf") left)) first ns ≡ noted_all (placed_from trexes moof (pos moof) (of_kind (codes "traf") all)) first os)

-- another box
pub notes_other : (moof : ℕ) (first : List TrackState) (all left later : List Box) (b : Box) (before : ℤ) (tracks : List TrackState) (owns now : Option (List OwnSeen)) → NotesSeen moof first all left before tracks owns now → left ≡ b ∷ later → bytes_eq b.kind (codes "traf") ≡ false
    → NotesSeen moof first all later before tracks owns now
notes_other moof first all left later b before tracks owns now s e k =
    let kept : of_kind (codes "traf") left ≡ of_kind (codes "traf") later = ap (of_kind (codes "traf")) e ∙ rw (turned (codes "traf") b.kind ∙ k) refl in
    record {
      ids = s.ids;
      each = s.each;
      notes = λ trexes defaults apart.
          subst (λ (bs : List Box). WhereNoted owns now (λ os ns. length os ≡ length first → noted_all (placed_from trexes moof before bs) first ns ≡ noted_all (placed_from trexes moof (pos moof) (of_kind (codes "traf") all)) first os)) kept (s.notes trexes defaults apart);
    }

-- a `traf`
pub notes_traf : (L moof : ℕ) (first : List TrackState) (all left later : List Box) (b : Box) (before ends : ℤ) (tracks new : List TrackState) (owns now next : Option (List OwnSeen)) (p : PassedTraf)
    → NotesSeen moof first all left before tracks owns now → left ≡ b ∷ later → bytes_eq b.kind (codes "traf") ≡ true
    → ((id : ℕ) → trex_among tracks id ≡ trex_among first id) → IsTrafSound L moof before tracks (children_of b) ends → IsNotable moof before b tracks p → ids_of new ≡ ids_of tracks → WhereNoted now next (λ ns os. os ≡ noted_if p.track p.own ns)
    → NotesSeen moof first all later ends new owns next
notes_traf L moof first all left later b before ends tracks new owns now next p s e k same sound n ids noted =
    let boxes = children_of b in
    let traf = track_fragment_of boxes in
    let kept : of_kind (codes "traf") left ≡ b ∷ of_kind (codes "traf") later = ap (of_kind (codes "traf")) e ∙ traf_kept b later k in
    let trex : sound.trex ≡ n.trex = same_some sound.trex n.trex (sym sound.known ∙ n.known) in
    let found : (trexes : List Trex) → AreTrexesOf trexes first → trex_for trexes traf.id ≡ Some n.trex = λ trexes defaults. trex_found trexes first traf.id n.trex defaults (sym (same traf.id) ∙ n.known) in
    let by : (trexes : List Trex) → AreTrexesOf trexes first → n.trex ≡ trex_by trexes boxes = λ trexes defaults. sym (ap (λ (o : Option Trex). unwrap_or o no_trex) (found trexes defaults)) in
    let end : (trexes : List Trex) → AreTrexesOf trexes first → ends ≡ end_with moof before (trex_by trexes boxes) traf = λ trexes defaults. sound.end ∙ ap (λ (x : Trex). end_with moof before x traf) (trex ∙ by trexes defaults) in
    record {
      ids = ids ∙ s.ids;
      each = noted_then owns now next (λ os ns. length ns ≡ length os) (λ ns os. os ≡ noted_if p.track p.own ns) (λ os ns. length ns ≡ length os) (λ xs ys zs long is. ap (λ (os : List OwnSeen). length os) is ∙ if_long p.track p.own ys ∙ long) s.each noted;
      notes = λ trexes defaults apart.
          let q = placed_with moof before (trex_by trexes boxes) b boxes in
          let behind = placed_from trexes moof (end_with moof before (trex_by trexes boxes) traf) (of_kind (codes "traf") later) in
          let note : p.own ≡ note_if q = n.note ∙ ap (λ (x : Trex). note_if (placed_with moof before x b boxes)) (by trexes defaults) in
          let So = λ (os ns : List OwnSeen). length os ≡ length first → noted_all (placed_from trexes moof before (of_kind (codes "traf") left)) first ns ≡ noted_all (placed_from trexes moof (pos moof) (of_kind (codes "traf") all)) first os in
          noted_then owns now next (λ os ns. (length ns ≡ length os) × So os ns) (λ ns os. os ≡ noted_if p.track p.own ns)
          (λ os ns. length os ≡ length first → noted_all (placed_from trexes moof ends (of_kind (codes "traf") later)) first ns ≡ noted_all (placed_from trexes moof (pos moof) (of_kind (codes "traf") all)) first os)
          (λ xs ys zs so is long.
          ap (λ (at : ℤ). noted_all (placed_from trexes moof at (of_kind (codes "traf") later)) first zs) (end trexes defaults)
          ∙ ap (noted_all behind first) (is ∙ ap (λ (o : Option OwnTraf). noted_if p.track o ys) note)
          ∙ noted_where behind q p.track first ys (has_samples q.part) refl apart (so.0 ∙ long) (ap (λ (is : List ℕ). slice_get is p.track) (sym s.ids) ∙ n.there)
          ∙ ap (λ (bs : List Box). noted_all (placed_from trexes moof before bs) first ys) (sym kept)
          ∙ so.1 long) (noted_both owns now (λ os ns. length ns ≡ length os) So s.each (s.notes trexes defaults apart)) noted;
    }

-- behind the last box
pub notes_ended : (trexes : List Trex) (moof : Box) (first : List TrackState) (all left : List Box) (before : ℤ) (tracks : List TrackState) (owns now : Option (List OwnSeen)) → NotesSeen moof.offset first all left before tracks owns now → left ≡ []
    → all ≡ children_of moof → AreTrexesOf trexes first → AreApart first → WhereNoted owns now (λ os ns. length os ≡ length first → ns ≡ noted_in trexes (tree_of moof) first os)
notes_ended trexes moof first all left before tracks owns now s e same defaults apart =
    noted_with owns now (λ os ns. length os ≡ length first → noted_all (placed_from trexes moof.offset before (of_kind (codes "traf") left)) first ns ≡ noted_all (placed_from trexes moof.offset (pos moof.offset) (of_kind (codes "traf") all)) first os)
    (λ os ns. length os ≡ length first → ns ≡ noted_in trexes (tree_of moof) first os)
    (λ os ns so long.
    sym (none_noted first ns)
    ∙ ap (λ (bs : List Box). noted_all (placed_from trexes moof.offset before (of_kind (codes "traf") bs)) first ns) (sym e)
    ∙ so long
    ∙ ap (λ (bs : List Box). noted_all (placed_from trexes moof.offset (pos moof.offset) (of_kind (codes "traf") bs)) first os) same
    ∙ noted_in_is trexes moof first os) (s.notes trexes defaults apart)

-- the IDs of tracks with another state of one of them
pub ids_set : (k : ℕ) (tracks : List TrackState) (d new : TrackState) → k < length tracks → new.id ≡ (slice_index_or tracks k d).id → ids_of (slice_set tracks k new) ≡ ids_of tracks
ids_set k [] d new lt e = refl
ids_set zero (t ∷ tracks) d new lt e = ap (λ n. n ∷ ids_of tracks) e
ids_set (suc k) (t ∷ tracks) d new lt e = ap (λ (ns : List ℕ). t.id ∷ ns) (ids_set k tracks d new (omega arith) e)

-- the ID of the one that was found
found_id : (id k : ℕ) (tracks : List TrackState) → k < length tracks → find (λ (t : TrackState). t.id == id) tracks ≡ slice_get tracks k → slice_get (ids_of tracks) k ≡ Some id
found_id id k tracks lt e =
    let there = is_there k tracks lt in
    let named : there.0.id ≡ id = subst (λ (o : Option TrackState). IfSome o (λ t. t.id ≡ id)) (e ∙ there.1) (passes id tracks) in
    sym (same k tracks) ∙ ap (option_map (λ (t : TrackState). t.id)) there.1 ∙ ap Some named
  where
    same : (j : ℕ) (ts : List TrackState) → option_map (λ (t : TrackState). t.id) (slice_get ts j) ≡ slice_get (ids_of ts) j
    same j [] = refl
    same zero (t ∷ ts) = refl
    same (suc j) (t ∷ ts) = same j ts

    passes : (n : ℕ) (ts : List TrackState) → IfSome (find (λ (t : TrackState). t.id == n) ts) (λ t. t.id ≡ n)
    passes n [] = tt
    passes n (t ∷ ts) = choice (t.id == n) refl (passes n ts)
      where
        choice : (v : Bool) → (t.id == n) ≡ v → IfSome (find (λ (u : TrackState). u.id == n) ts) (λ u. u.id ≡ n) → IfSome (cond v (Some t) (find (λ (u : TrackState). u.id == n) ts)) (λ u. u.id ≡ n)
        choice true f more = eqb-true t.id n f
        choice false f more = more

    is_there : (j : ℕ) (ts : List TrackState) → j < length ts → (t : TrackState) × (slice_get ts j ≡ Some t)
    is_there j [] h = absurd (omega arith)
    is_there zero (t ∷ ts) h = (t, refl)
    is_there (suc j) (t ∷ ts) h = is_there j ts (omega arith)

-- it is that of the samples that were passed
pub traf_notable : (moof n k : ℕ) (before base ends : ℤ) (tracks : List TrackState) (b h : Box) (head : TrafHead) (trex : Trex) (own : Option OwnTraf) → of_kind (codes "tfhd") (children_of b) ≡ h ∷ [] → IsHead h.payload head → trex_among tracks head.id ≡ Some trex
    → k < length tracks → find (λ (t : TrackState). t.id == head.id) tracks ≡ slice_get tracks k → base ≡ base_of moof before (as_traf head) → n ≡ runs_total (of_kind (codes "trun") (children_of b))
    → own ≡ (if nat_lt 0 n then Some (record { at = b.offset + b.header; len = length b.payload; base = base }) else None)
    → IsNotable moof before b tracks (record { ends = ends; track = k; own = own })
traf_notable moof n k before base ends tracks b h head trex own one is known lt found eb en eo =
    let boxes = children_of b in
    let traf = track_fragment_of boxes in
    let same : as_traf head ≡ head_of (payload_of (codes "tfhd") boxes) = head_is h.payload head is ∙ ap head_of (sym (payload_is (codes "tfhd") h boxes one)) in
    let id : head.id ≡ traf.id = ap (λ (t : TrackFragment). t.id) same in
    let from : base ≡ base_of moof before traf = eb ∙ ap (base_of moof before) same in
    let count : n ≡ length (part_samples (part_with moof before trex traf)) = en ∙ sym (part_counts moof before trex boxes) in
    record {
      trex = trex;
      known = ap (trex_among tracks) (sym id) ∙ known;
      there = found_id head.id k tracks lt found ∙ ap Some id;
      note = eo ∙ (λ i. cond (nat_lt 0 (count i)) (Some (record { at = b.offset + b.header; len = length b.payload; base = from i })) None);
    }
