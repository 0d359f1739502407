-- The `traf`s of a `moof`, passed one by one.
use Rattle.std.proofs.Common.{◌≡◌, ℕ, suc, ◌+◌, ◌*◌, ◌^◌, ◌<◌, ◌≤◌, true, false, List, [], ◌∷◌, length, map, Option, Some, None, IsTrue, inl, inr, refl, sym, ap, subst, ◌∙◌, arith}
use Rattle.std.specs.Prelude.{ℤ, pos, codes, bytes_eq, unwrap_or, option_map, is_some}
use Rattle.std.specs.List.{AllByRecursion}
use Rattle.mp4_boxes.specs.format.Box.{Box, Tiles, box_container}
use Rattle.mp4_boxes.specs.format.Children.{of_kind, Holds}
use Rattle.mp4_boxes.specs.format.Places.{ruled, AreSound}
use Rattle.mp4_boxes.specs.declared.rule.Rule.TheVariants as rules
use Rattle.mp4_frag.specs.format.Fragments.{AreTrafs, track_fragment_of}
use Rattle.mp4_frag.specs.format.FragmentSamples.{Part, parts_after, trex_for, no_trex}
use Rattle.mp4_frag.specs.words.Judged.{is_known_among, IsPlacedWithin, IsGrouped, IsSoundMoof, IsTrafSound, AreTrafsSound, IsSoundFront, IsMovedOn, AreMovedOn, end_with, tree_of}
use Rattle.mp4_frag.specs.words.Passing.{IsUpTo}
use Rattle.mp4_frag.specs.words.RunsJudged.{children_of}
use Rattle.mp4_boxes.specs.declared.fault.Fault.{Fault}
use Rattle.mp4_frag.specs.words.TrafFaults.{HoldsBoxes}
use Rattle.mp4_frag.specs.words.TrafTests.{traf_fault, TrafsFirst}
use Rattle.mp4_frag.specs.words.Walks.{trex_among}
use Rattle.mp4_frag.specs.declared.state.TrackState.{TrackState}
use Rattle.mp4_frag.specs.declared.trex.Trex.{Trex}
use Rattle.mp4_frag.proofs.Comings.{turned}
use Rattle.mp4_frag.proofs.Bounds.{up_to_more}
use Rattle.mp4_frag.proofs.OwnTrexes.{Agree}

-- Of all boxes these are left; the data of those passed ends at a place.
pub record MoofSeen (L moof : ℕ) (first : List TrackState) (all left : List Box) (before : ℤ) (tracks : List TrackState) : Type 0 where
  pub sound : AreTrafsSound L moof before first (of_kind (codes "traf") left) → AreTrafsSound L moof (pos moof) first (of_kind (codes "traf") all)
  pub count : ℕ
  pub near : IsUpTo (2 ^ 64 + 2 ^ 31 * count) before
  pub passed : count + length left ≤ length all
  pub same : (id : ℕ) → trex_among tracks id ≡ trex_among first id

pub other_kept : (b : Box) (boxes : List Box) → bytes_eq b.kind (codes "traf") ≡ false → of_kind (codes "traf") (b ∷ boxes) ≡ of_kind (codes "traf") boxes
other_kept b boxes e = rw (turned (codes "traf") b.kind ∙ e) refl

pub traf_kept : (b : Box) (boxes : List Box) → bytes_eq b.kind (codes "traf") ≡ true → of_kind (codes "traf") (b ∷ boxes) ≡ b ∷ of_kind (codes "traf") boxes
traf_kept b boxes e = rw (turned (codes "traf") b.kind ∙ e) refl

-- the same `traf` by what was known first
pub known_first : (L moof : ℕ) (before ends : ℤ) (first tracks : List TrackState) (boxes : List Box) → ((id : ℕ) → trex_among tracks id ≡ trex_among first id) → IsTrafSound L moof before tracks boxes ends → IsTrafSound L moof before first boxes ends
known_first L moof before ends first tracks boxes same t = record { leaves = t.leaves; trex = t.trex; known = sym (same (track_fragment_of boxes).id) ∙ t.known; places = t.places; groups = t.groups; end = t.end }

-- a `traf`
pub moof_traf : (L moof : ℕ) (first : List TrackState) (all left later : List Box) (b : Box) (before ends : ℤ) (tracks now : List TrackState) → MoofSeen L moof first all left before tracks → left ≡ b ∷ later → bytes_eq b.kind (codes "traf") ≡ true
    → Holds rules.TrackFragment (box_container b) (children_of b) → IsTrafSound L moof before tracks (children_of b) ends
    → ((n : ℕ) → 2 ^ 64 ≤ n → IsUpTo n before → IsUpTo (n + 2 ^ 31) ends) → ((id : ℕ) → trex_among now id ≡ trex_among tracks id) → MoofSeen L moof first all later ends now
moof_traf L moof first all left later b before ends tracks now s e k holds t bound same =
    let kept : of_kind (codes "traf") left ≡ b ∷ of_kind (codes "traf") later = ap (of_kind (codes "traf")) e ∙ traf_kept b later k in
    let long : length left ≡ suc (length later) = ap (λ (bs : List Box). length bs) e in
    let passed = s.passed in
    let far : 2 ^ 64 + 2 ^ 31 * s.count + 2 ^ 31 ≤ 2 ^ 64 + 2 ^ 31 * suc s.count = omega arith in
    record {
      sound = λ h. s.sound (subst (AreTrafsSound L moof before first) (sym kept) (holds, (ends, known_first L moof before ends first tracks (children_of b) s.same t, h)));
      count = suc s.count;
      near = up_to_more (2 ^ 64 + 2 ^ 31 * s.count + 2 ^ 31) (2 ^ 64 + 2 ^ 31 * suc s.count) ends far (bound (2 ^ 64 + 2 ^ 31 * s.count) (omega arith) s.near);
      passed = omega arith;
      same = λ id. same id ∙ s.same id;
    }

-- behind the last box
pub moof_ended : (L moof : ℕ) (first : List TrackState) (all left boxes : List Box) (before : ℤ) (tracks : List TrackState) → MoofSeen L moof first all left before tracks → left ≡ [] → all ≡ boxes → AreTrafsSound L moof (pos moof) first (of_kind (codes "traf") boxes)
moof_ended L moof first all left boxes before tracks s e f = subst (λ (bs : List Box). AreTrafsSound L moof (pos moof) first (of_kind (codes "traf") bs)) f (s.sound (subst (λ (bs : List Box). AreTrafsSound L moof before first (of_kind (codes "traf") bs)) (sym e) tt))

-- ---- the whole `moof`

trees : (L moof : ℕ) (before : ℤ) (tracks : List TrackState) (trafs : List Box) → AreTrafsSound L moof before tracks trafs → AreTrafs trafs (map children_of trafs)
trees L moof before tracks [] h = tt
trees L moof before tracks (b ∷ trafs) h = (h.0, trees L moof h.1.0 tracks trafs h.1.2)

leaves_of : (L moof : ℕ) (before : ℤ) (tracks : List TrackState) (trafs : List Box) → AreTrafsSound L moof before tracks trafs → AllByRecursion (AreSound (ruled rules.TrackFragment)) (map children_of trafs)
leaves_of L moof before tracks [] h = tt
leaves_of L moof before tracks (b ∷ trafs) h = (h.1.1.leaves, leaves_of L moof h.1.0 tracks trafs h.1.2)

-- the parts of `traf`s
abbrev parts_from : List Trex → ℕ → ℤ → List Box → List Part
parts_from trexes moof before trafs = parts_after trexes moof before (map track_fragment_of (map children_of trafs))

ends_is : (trexes : List Trex) (L moof : ℕ) (before ends : ℤ) (tracks : List TrackState) (boxes : List Box) → Agree trexes tracks → (t : IsTrafSound L moof before tracks boxes ends)
    → ends ≡ end_with moof before (unwrap_or (trex_for trexes (track_fragment_of boxes).id) no_trex) (track_fragment_of boxes)
ends_is trexes L moof before ends tracks boxes h t = t.end ∙ (h (track_fragment_of boxes).id t.trex t.known moof before (track_fragment_of boxes)).1

all_known : (trexes : List Trex) (L moof : ℕ) (before : ℤ) (tracks : List TrackState) (trafs : List Box) → Agree trexes tracks → AreTrafsSound L moof before tracks trafs → AllByRecursion (λ (part : Part). IsTrue (is_known_among tracks part)) (parts_from trexes moof before trafs)
all_known trexes L moof before tracks [] h s = tt
all_known trexes L moof before tracks (b ∷ trafs) h s =
    let t = s.1.1 in (
      ap is_some t.known,
      subst (λ (at : ℤ). AllByRecursion (λ (part : Part). IsTrue (is_known_among tracks part)) (parts_from trexes moof at trafs)) (ends_is trexes L moof before s.1.0 tracks (children_of b) h t) (all_known trexes L moof s.1.0 tracks trafs h s.1.2),
    )

all_placed : (trexes : List Trex) (L moof : ℕ) (before : ℤ) (tracks : List TrackState) (trafs : List Box) → Agree trexes tracks → AreTrafsSound L moof before tracks trafs → AllByRecursion (IsPlacedWithin L) (parts_from trexes moof before trafs)
all_placed trexes L moof before tracks [] h s = tt
all_placed trexes L moof before tracks (b ∷ trafs) h s =
    let t = s.1.1 in (
      subst (IsPlacedWithin L) (h (track_fragment_of (children_of b)).id t.trex t.known moof before (track_fragment_of (children_of b))).0 t.places,
      subst (λ (at : ℤ). AllByRecursion (IsPlacedWithin L) (parts_from trexes moof at trafs)) (ends_is trexes L moof before s.1.0 tracks (children_of b) h t) (all_placed trexes L moof s.1.0 tracks trafs h s.1.2),
    )

all_grouped : (trexes : List Trex) (L moof : ℕ) (before : ℤ) (tracks : List TrackState) (trafs : List Box) → Agree trexes tracks → AreTrafsSound L moof before tracks trafs → AllByRecursion IsGrouped (parts_from trexes moof before trafs)
all_grouped trexes L moof before tracks [] h s = tt
all_grouped trexes L moof before tracks (b ∷ trafs) h s =
    let t = s.1.1 in (
      subst IsGrouped (h (track_fragment_of (children_of b)).id t.trex t.known moof before (track_fragment_of (children_of b))).0 t.groups,
      subst (λ (at : ℤ). AllByRecursion IsGrouped (parts_from trexes moof at trafs)) (ends_is trexes L moof before s.1.0 tracks (children_of b) h t) (all_grouped trexes L moof s.1.0 tracks trafs h s.1.2),
    )

pub moof_sound : (trexes : List Trex) (L : ℕ) (moof : Box) (tracks : List TrackState) → L < 2 ^ 64 → Holds rules.MovieFragment (box_container moof) (children_of moof) → AreTrafsSound L moof.offset (pos moof.offset) tracks (of_kind (codes "traf") (children_of moof))
    → Agree trexes tracks → IsSoundMoof L trexes tracks (tree_of moof)
moof_sound trexes L moof tracks short holds s h =
    let trafs = of_kind (codes "traf") (children_of moof) in
    record {
      short = short;
      tree = record { children = holds; trafs = trees L moof.offset (pos moof.offset) tracks trafs s };
      leaves = leaves_of L moof.offset (pos moof.offset) tracks trafs s;
      known = all_known trexes L moof.offset (pos moof.offset) tracks trafs h s;
      places = all_placed trexes L moof.offset (pos moof.offset) tracks trafs h s;
      groups = all_grouped trexes L moof.offset (pos moof.offset) tracks trafs h s;
    }

-- the front of one
pub front_sound : (trexes : List Trex) (L : ℕ) (moof : Box) (tracks : List TrackState) → Tiles (box_container moof) (children_of moof) → AreTrafsSound L moof.offset (pos moof.offset) tracks (of_kind (codes "traf") (children_of moof)) → Agree trexes tracks → IsSoundFront L trexes (tree_of moof)
front_sound trexes L moof tracks tiles s h =
    let trafs = of_kind (codes "traf") (children_of moof) in
    record { tiles = tiles; trafs = trees L moof.offset (pos moof.offset) tracks trafs s; places = all_placed trexes L moof.offset (pos moof.offset) tracks trafs h s }

-- ---- how the tracks move on

-- Of all boxes these are left; the tracks were moved on by those passed.
pub record MovesSeen (L moof : ℕ) (first : List TrackState) (whole : ℕ) (all left : List Box) (before : ℤ) (tracks : List TrackState) (room : ℕ) : Type 0 where
  pub moves : (new : List TrackState) (less : ℕ) → AreMovedOn moof before (of_kind (codes "traf") left) tracks new room less → AreMovedOn moof (pos moof) (of_kind (codes "traf") all) first new whole less
  pub firsts : (o : Option Fault) → TrafsFirst L moof before tracks room (of_kind (codes "traf") left) o → TrafsFirst L moof (pos moof) first whole (of_kind (codes "traf") all) o

some_trex : (x y : Trex) → ◌≡◌ {A = Option Trex} (Some x) (Some y) → x ≡ y
some_trex x y e = cc

-- the defaults of the track that moved on are those known of it
pub same_trex : (L moof : ℕ) (before ends : ℤ) (boxes : List Box) (tracks now : List TrackState) (room less : ℕ) (t : IsTrafSound L moof before tracks boxes ends) (m : IsMovedOn moof before boxes tracks now room less) → t.trex ≡ m.trex
same_trex L moof before ends boxes tracks now room less t m = some_trex t.trex m.trex (sym t.known ∙ ap (λ (o : Option TrackState). unwrap_or (option_map (λ (s : TrackState). s.trex) o) None) m.found ∙ m.defaults)

pub moves_traf : (L moof : ℕ) (first : List TrackState) (whole : ℕ) (all left later : List Box) (b : Box) (before ends : ℤ) (tracks now : List TrackState) (room rest : ℕ) → MovesSeen L moof first whole all left before tracks room → left ≡ b ∷ later → bytes_eq b.kind (codes "traf") ≡ true
    → HoldsBoxes b → IsTrafSound L moof before tracks (children_of b) ends → IsMovedOn moof before (children_of b) tracks now room rest → traf_fault L moof before tracks room b ≡ None → MovesSeen L moof first whole all later ends now rest
moves_traf L moof first whole all left later b before ends tracks now room rest s e k holds t m none =
    let kept : of_kind (codes "traf") left ≡ b ∷ of_kind (codes "traf") later = ap (of_kind (codes "traf")) e ∙ traf_kept b later k in
    let end : ends ≡ end_with moof before m.trex (track_fragment_of (children_of b)) = t.end ∙ ap (λ (x : Trex). end_with moof before x (track_fragment_of (children_of b))) (same_trex L moof before ends (children_of b) tracks now room rest t m) in
    record {
      moves = λ new less h. s.moves new less (subst (λ (bs : List Box). AreMovedOn moof before bs tracks new room less) (sym kept) (now, rest, (m, subst (λ (at : ℤ). AreMovedOn moof at (of_kind (codes "traf") later) now new rest less) end h)));
      firsts = λ o h. s.firsts o (subst (λ (bs : List Box). TrafsFirst L moof before tracks room bs o) (sym kept) (inr (ends, now, rest, (none, t, m, h))));
    }

-- a `traf` that is named
pub moves_first : (L moof : ℕ) (first : List TrackState) (whole : ℕ) (all left later boxes : List Box) (b : Box) (before : ℤ) (tracks : List TrackState) (room : ℕ) (f : Fault) → MovesSeen L moof first whole all left before tracks room → left ≡ b ∷ later → bytes_eq b.kind (codes "traf") ≡ true
    → all ≡ boxes
    → traf_fault L moof before tracks room b ≡ Some f → TrafsFirst L moof (pos moof) first whole (of_kind (codes "traf") boxes) (Some f)
moves_first L moof first whole all left later boxes b before tracks room f s e k same h =
    let kept : of_kind (codes "traf") left ≡ b ∷ of_kind (codes "traf") later = ap (of_kind (codes "traf")) e ∙ traf_kept b later k in
    subst (λ (bs : List Box). TrafsFirst L moof (pos moof) first whole (of_kind (codes "traf") bs) (Some f)) same (s.firsts (Some f) (subst (λ (bs : List Box). TrafsFirst L moof before tracks room bs (Some f)) (sym kept) (inl (f, h, refl))))

-- none is
pub moves_none : (L moof : ℕ) (first : List TrackState) (whole : ℕ) (all left boxes : List Box) (before : ℤ) (tracks : List TrackState) (room : ℕ) → MovesSeen L moof first whole all left before tracks room → left ≡ [] → all ≡ boxes
    → TrafsFirst L moof (pos moof) first whole (of_kind (codes "traf") boxes) None
moves_none L moof first whole all left boxes before tracks room s e f =
    subst (λ (bs : List Box). TrafsFirst L moof (pos moof) first whole (of_kind (codes "traf") bs) None) f (s.firsts None (subst (λ (bs : List Box). TrafsFirst L moof before tracks room (of_kind (codes "traf") bs) None) (sym e) refl))

pub moves_ended : (L moof : ℕ) (first : List TrackState) (whole : ℕ) (all left boxes : List Box) (before : ℤ) (tracks : List TrackState) (room : ℕ) → MovesSeen L moof first whole all left before tracks room → left ≡ [] → all ≡ boxes
    → AreMovedOn moof (pos moof) (of_kind (codes "traf") boxes) first tracks whole room
moves_ended L moof first whole all left boxes before tracks room s e f =
    subst (λ (bs : List Box). AreMovedOn moof (pos moof) (of_kind (codes "traf") bs) first tracks whole room) f (s.moves tracks room (subst (λ (bs : List Box). AreMovedOn moof before (of_kind (codes "traf") bs) tracks tracks room room) (sym e) (refl, refl)))
