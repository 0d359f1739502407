-- The `traf`s before one that is refused.
use Rattle.std.proofs.Common.{◌≡◌, ℕ, true, false, List, [], ◌∷◌, ◌++◌, refl, sym, ap, subst, ◌∙◌}
use Rattle.std.specs.Prelude.{ℤ, pos, codes, bytes_eq}
use Rattle.std.proofs.lemmas.List.{append_assoc}
use Rattle.mp4_boxes.specs.format.Box.{Box, Tiles, box_container}
use Rattle.mp4_boxes.specs.format.Children.{of_kind, Holds}
use Rattle.mp4_boxes.specs.declared.rule.Rule.TheVariants as rules
use Rattle.mp4_boxes.proofs.Among.{of_kind-append}
use Rattle.mp4_frag.specs.format.Fragments.{track_fragment_of}
use Rattle.mp4_frag.specs.words.Judged.{AreMovedOn, AreTrafsSound, IsMovedOn, IsTrafSound, end_with}
use Rattle.mp4_frag.specs.words.RunsJudged.{children_of}
use Rattle.mp4_frag.specs.words.Tracking.{StandsBehind, front_before}
use Rattle.mp4_frag.specs.words.Walks.{trex_among}
use Rattle.mp4_frag.specs.declared.state.TrackState.{TrackState}
use Rattle.mp4_frag.specs.declared.trex.Trex.{Trex}
use Rattle.mp4_frag.proofs.FrontsCut.{tiles_before}
use Rattle.mp4_frag.proofs.HeadsFound.{holds_boxes}
use Rattle.mp4_frag.proofs.MoofPassed.{front_sound, known_first, same_trex, traf_kept, other_kept}
use Rattle.mp4_frag.proofs.OwnTrexes.{agree_of}

nothing_more : (xs : List Box) → xs ++ [] ≡ xs
nothing_more [] = refl
nothing_more (x ∷ xs) = ap (λ (ys : List Box). x ∷ ys) (nothing_more xs)

other_joined : (xs : List Box) (b : Box) → bytes_eq b.kind (codes "traf") ≡ false → of_kind (codes "traf") (xs ++ b ∷ []) ≡ of_kind (codes "traf") xs
other_joined xs b k = of_kind-append (codes "traf") xs (b ∷ []) ∙ ap (λ (bs : List Box). of_kind (codes "traf") xs ++ bs) (other_kept b [] k) ∙ nothing_more (of_kind (codes "traf") xs)

traf_joined : (xs : List Box) (b : Box) → bytes_eq b.kind (codes "traf") ≡ true → of_kind (codes "traf") (xs ++ b ∷ []) ≡ of_kind (codes "traf") xs ++ b ∷ []
traf_joined xs b k = of_kind-append (codes "traf") xs (b ∷ []) ∙ ap (λ (bs : List Box). of_kind (codes "traf") xs ++ bs) (traf_kept b [] k)

-- Of all boxes these are left, behind those in front; with `traf`s that may follow, those in front are sound, and the tracks moved on.
pub record FrontSeen (L moof : ℕ) (first : List TrackState) (whole : ℕ) (all left : List Box) (before : ℤ) (tracks : List TrackState) (room : ℕ) : Type 0 where
  pub front : List Box
  pub split : all ≡ front ++ left
  pub sound : (rest : List Box) → AreTrafsSound L moof before first rest → AreTrafsSound L moof (pos moof) first (of_kind (codes "traf") front ++ rest)
  pub moves : (rest : List Box) (new : List TrackState) (less : ℕ) → AreMovedOn moof before rest tracks new room less → AreMovedOn moof (pos moof) (of_kind (codes "traf") front ++ rest) first new whole less

split_on : (all front left later : List Box) (b : Box) → all ≡ front ++ left → left ≡ b ∷ later → all ≡ (front ++ b ∷ []) ++ later
split_on all front left later b s e = s ∙ ap (λ (bs : List Box). front ++ bs) e ∙ sym (append_assoc front (b ∷ []) later)

-- a box that is no `traf`
pub front_other : (L moof : ℕ) (first : List TrackState) (whole : ℕ) (all left later : List Box) (b : Box) (before : ℤ) (tracks : List TrackState) (room : ℕ) → FrontSeen L moof first whole all left before tracks room → left ≡ b ∷ later → bytes_eq b.kind (codes "traf") ≡ false
    → FrontSeen L moof first whole all later before tracks room
front_other L moof first whole all left later b before tracks room s e k =
    let same = other_joined s.front b k in
    record {
      front = s.front ++ b ∷ [];
      split = split_on all s.front left later b s.split e;
      sound = λ rest h. subst (λ (bs : List Box). AreTrafsSound L moof (pos moof) first (bs ++ rest)) (sym same) (s.sound rest h);
      moves = λ rest new less h. subst (λ (bs : List Box). AreMovedOn moof (pos moof) (bs ++ rest) first new whole less) (sym same) (s.moves rest new less h);
    }

-- a `traf` that passes
pub front_traf : (L moof : ℕ) (first : List TrackState) (whole : ℕ) (all left later : List Box) (b : Box) (before ends : ℤ) (tracks now : List TrackState) (room rest : ℕ) → FrontSeen L moof first whole all left before tracks room → left ≡ b ∷ later → bytes_eq b.kind (codes "traf") ≡ true
    → Holds rules.TrackFragment (box_container b) (children_of b) → ((id : ℕ) → trex_among tracks id ≡ trex_among first id) → IsTrafSound L moof before tracks (children_of b) ends → IsMovedOn moof before (children_of b) tracks now room rest
    → FrontSeen L moof first whole all later ends now rest
front_traf L moof first whole all left later b before ends tracks now room rest s e k holds known t m =
    let joined = traf_joined s.front b k in
    let end : ends ≡ end_with moof before m.trex (track_fragment_of (children_of b)) = t.end ∙ ap (λ (x : Trex). end_with moof before x (track_fragment_of (children_of b))) (same_trex L moof before ends (children_of b) tracks now room rest t m) in
    let on = λ (more : List Box). append_assoc (of_kind (codes "traf") s.front) (b ∷ []) more in
    record {
      front = s.front ++ b ∷ [];
      split = split_on all s.front left later b s.split e;
      sound = λ more h. subst (AreTrafsSound L moof (pos moof) first) (sym (ap (λ (bs : List Box). bs ++ more) joined ∙ on more)) (s.sound (b ∷ more) (holds, (ends, known_first L moof before ends first tracks (children_of b) known t, h)));
      moves = λ more new less h. subst (λ (bs : List Box). AreMovedOn moof (pos moof) bs first new whole less) (sym (ap (λ (bs : List Box). bs ++ more) joined ∙ on more)) (s.moves (b ∷ more) new less (now, rest, (m, subst (λ (at : ℤ). AreMovedOn moof at more now new rest less) end h)));
    }

-- the `traf` in hand stands behind those in front
pub stands_here : (L : ℕ) (moof : Box) (first : List TrackState) (whole : ℕ) (all left later : List Box) (b : Box) (before : ℤ) (tracks : List TrackState) (room : ℕ) → FrontSeen L moof.offset first whole all left before tracks room → left ≡ b ∷ later
    → Tiles (box_container moof) all → StandsBehind L moof first whole b tracks
stands_here L moof first whole all left later b before tracks room s e t =
    let tiles : Tiles (box_container moof) (s.front ++ b ∷ later) = subst (Tiles (box_container moof)) (s.split ∙ ap (λ (bs : List Box). s.front ++ bs) e) t in
    let cut = tiles_before moof b s.front later tiles in
    let same = holds_boxes (front_before moof b) s.front cut in
    let own = nothing_more (of_kind (codes "traf") s.front) in
    record {
      front = s.front;
      later = later;
      tiles = tiles;
      less = room;
      sound = λ trexes a. front_sound trexes L (front_before moof b) first (subst (Tiles (box_container (front_before moof b))) same cut)
          (subst (λ (bs : List Box). AreTrafsSound L moof.offset (pos moof.offset) first (of_kind (codes "traf") bs)) same (subst (AreTrafsSound L moof.offset (pos moof.offset) first) own (s.sound [] tt))) (agree_of trexes first a);
      moved = subst (λ (bs : List Box). AreMovedOn moof.offset (pos moof.offset) (of_kind (codes "traf") bs) first tracks whole room) same
          (subst (λ (bs : List Box). AreMovedOn moof.offset (pos moof.offset) bs first tracks whole room) own (s.moves [] tracks room (refl, refl)));
    }
