-- What a walk holds, and what it has passed last, is said of few of its parts.
use Rattle.std.proofs.Common.{◌≡◌, ℕ, List, [], ◌∷◌, ◌++◌, length, Option, None, Some, refl, sym, ap, subst, ◌∙◌, arith}
use Rattle.std.specs.List.{slice_get}
use Rattle.mp4_frag.specs.words.OwnTrafs.{PlacedTraf}
use Rattle.mp4_head.specs.format.Tree.{TrackTree}
use Rattle.mp4_present.specs.words.SamplesComing.{HoldsNext, HoldsLast, StandsBefore}
use Rattle.mp4_present.specs.format.Denotes.{FileTree}
use Rattle.mp4_present.specs.words.Movies.{traf_bytes}
use Rattle.mp4_present.specs.declared.walking.in_hand.Place.{Place}
use Rattle.mp4_present.specs.declared.walking.Due.{Due}
use Rattle.mp4_present.specs.declared.walking.Mark.{Mark}
use Rattle.mp4_present.specs.declared.walking.Walk.{Walk}
use Rattle.mp4_boxes.proofs.Plain.{head_is, none_some, tail_is}

-- two walks of one track hold the same `traf`
pub record HoldSame (w now : Walk) : Type 0 where
  pub track : now.track ≡ w.track
  pub next : now.next ≡ w.next
  pub traf : now.traf ≡ w.traf
  pub room : length now.bytes.items ≡ length w.bytes.items
  pub bytes : traf_bytes now ≡ traf_bytes w

module _ (file : List ℕ) (tree : FileTree) (t : TrackTree) (w now : Walk) (s : HoldSame w now) where
  pub holds_as : (earlier : List PlacedTraf) (next : PlacedTraf) (later : List PlacedTraf) → now.due ≡ w.due → now.left ≡ w.left → HoldsNext file tree t earlier next later w → HoldsNext file tree t earlier next later now
  holds_as earlier next later due left h = record {
    is_track = subst (λ (k : ℕ). slice_get tree.movie.tracks k ≡ Some t) (sym s.track) h.is_track;
    split = h.split;
    place = s.next ∙ h.place;
    due = due ∙ h.due;
    left = left ∙ h.left;
    room = s.room ∙ h.room;
    traf = s.traf ∙ h.traf;
    bytes = s.bytes ∙ h.bytes;
  }

module _ (file : List ℕ) (tree : FileTree) (t : TrackTree) (earlier later : List PlacedTraf) (w now : Walk) (s : HoldSame w now) where
  with_due : (d : Due) → HoldSame (record w { due = d.time; left = d.left }) (record now { due = d.time; left = d.left })
  with_due d = record { track = s.track; next = s.next; traf = s.traf; room = s.room; bytes = s.bytes }

  pub held_as : (b : Option Due) → HoldsLast file tree t earlier later w b → HoldsLast file tree t earlier later now b
  held_as None h = tt
  held_as (Some d) h = (h.0, h.1, h.2, holds_as file tree t (record w { due = d.time; left = d.left }) (record now { due = d.time; left = d.left }) (with_due d) h.0 h.1 later refl refl h.3)

-- between which `traf`s a walk stands doesn't depend on its place in what is in hand, nor on its mark
pub stands_moved : (file : List ℕ) (tree : FileTree) (t : TrackTree) (earlier later : List PlacedTraf) (w : Walk) (p : Place) (k : Mark) → StandsBefore file tree t earlier later w → StandsBefore file tree t earlier later (record w { place = p; mark = k })
stands_moved file tree t earlier later w p k s = record {
  is_track = s.is_track;
  split = s.split;
  place = s.place;
  due = s.due;
  left = s.left;
  room = s.room;
  held = held_as file tree t earlier later w (record w { place = p; mark = k }) (record { track = refl; next = refl; traf = refl; room = refl; bytes = refl }) w.before s.held;
}

-- ---- two walks that hold the same one

-- one place of a list has one element
pub one_at_place : {A : Type 0} (us : List A) (x : A) (bs cs : List A) (y : A) (ds : List A) → us ++ x ∷ bs ≡ cs ++ y ∷ ds → length us ≡ length cs → (us ≡ cs) × (x ≡ y) × (bs ≡ ds)
one_at_place [] x bs [] y ds e n = (refl, head_is x y bs ds e, tail_is x y bs ds e)
one_at_place [] x bs (c ∷ cs) y ds e n = absurd cc
one_at_place (a ∷ us) x bs [] y ds e n = absurd cc
one_at_place (a ∷ us) x bs (c ∷ cs) y ds e n =
    let r = one_at_place us x bs cs y ds (tail_is a c (us ++ x ∷ bs) (cs ++ y ∷ ds) e) (omega (arith, n)) in
    ((λ i. head_is a c (us ++ x ∷ bs) (cs ++ y ∷ ds) e i ∷ r.0 i), r.1, r.2)

-- the bytes in hand of two walks that stand behind the same place
pub held_bytes : (file : List ℕ) (tree : FileTree) (t : TrackTree) (earlier later : List PlacedTraf) (w : Walk) (b : Option Due) (others more : List PlacedTraf) (v : Walk) (c : Option Due) (d e : Due) → b ≡ Some d → c ≡ Some e
    → HoldsLast file tree t earlier later w b → HoldsLast file tree t others more v c → w.next ≡ v.next → traf_bytes w ≡ traf_bytes v
held_bytes file tree t earlier later w None others more v c d e p q h k same = absurd (none_some d p)
held_bytes file tree t earlier later w (Some b) others more v None d e p q h k same = absurd (none_some e q)
held_bytes file tree t earlier later w (Some b) others more v (Some c) d e p q h k same =
    let here = h.3.place in
    let there = k.3.place in
    let one = one_at_place h.0 h.1 later k.0 k.1 more (sym h.3.split ∙ k.3.split) (omega (arith, here, there, same)) in
    h.3.bytes ∙ ap (λ (x : PlacedTraf). x.traf.payload) one.1 ∙ sym k.3.bytes
