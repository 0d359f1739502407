-- The first fault of the `moof`s of a file, one after the other, is that of the definition.
use Rattle.std.proofs.Common.{◌≡◌, ℕ, ◌+◌, Bool, true, List, [], ◌∷◌, ◌++◌, Option, Some, None, Result, Ok, Err, length, refl, sym, ap, subst, ◌∙◌, arith, append_assoc}
use Rattle.std.specs.Prelude.{pos, codes, bytes_eq}
use Rattle.std.proofs.lemmas.List.{append-nil}
use Rattle.mp4_boxes.specs.format.Box.{Box, file_container}
use Rattle.mp4_boxes.specs.format.Children.{Holds, of_kind}
use Rattle.mp4_boxes.specs.format.FirstFault.{and_then}
use Rattle.mp4_boxes.specs.declared.fault.Fault.{Fault}
use Rattle.mp4_boxes.specs.declared.refusal.Refusal.{Refusal}
use Rattle.mp4_boxes.specs.declared.refusal.Refusal.TheVariants as refusals
use Rattle.mp4_boxes.specs.declared.rule.Rule.TheVariants.{File}
use Rattle.mp4_boxes.proofs.Among.{of_kind-split}
use Rattle.mp4_frag.specs.format.Fragments.{FragmentTree}
use Rattle.mp4_frag.specs.words.Judged.{AreTrexesOf, IsSoundMoof, AreMovedOn, tree_of}
use Rattle.mp4_frag.specs.words.RunsJudged.{children_of}
use Rattle.mp4_frag.specs.words.TrafTests.{MoofFirst}
use Rattle.mp4_frag.specs.declared.state.TrackState.{TrackState}
use Rattle.mp4_frag.specs.declared.trex.Trex.{Trex}
use Rattle.mp4_head.specs.format.Tree.{MovieTree}
use Rattle.mp4_present.specs.format.Judge.{moofs_or_fault}
use Rattle.mp4_present.specs.format.Presentation.{max_samples}
use Rattle.mp4_present.specs.words.Movies.{IsWhole}
use Rattle.mp4_present.specs.words.MoofsJudged.{PassesMoofs, RefusesMoofs}
use Rattle.mp4_present.specs.words.Outline.{IsNextFragment, IsOutline, box_at}
use Rattle.mp4_present.specs.words.PassedMoofs.{IsBegun}
use Rattle.mp4_present.specs.words.Passing.{parts_behind}
use Rattle.mp4_present.specs.words.Reading.{RefusesTopBox}
use Rattle.mp4_present.specs.declared.opening.outline.Outline.{Outline}
use Rattle.mp4_present.specs.declared.reading.TopBox.{TopBox}
use Rattle.mp4_present.proofs.MoofBehind.{counted, counted_more}
use Rattle.mp4_present.proofs.MoofJudged.{moof_judged}
use Rattle.mp4_present.proofs.MoofsPassed.{IsUnderWay, IsRead, under_way_first, all_passed, read_is, next_passed, next_fragments, next_left}

-- ---- one answer behind another

-- nothing is put in front of an answer
ok_same : (r : Result (List FragmentTree) Fault) → r ≡ and_then r (λ more. Ok more)
ok_same (Ok xs) = refl
ok_same (Err f) = refl

-- one more in front of what is found is one more behind what was passed
one_further : (fs : List FragmentTree) (f : FragmentTree) (r : Result (List FragmentTree) Fault) → and_then (and_then r (λ more. Ok (f ∷ more))) (λ more. Ok (fs ++ more)) ≡ and_then r (λ more. Ok ((fs ++ f ∷ []) ++ more))
one_further fs f (Ok xs) = ap (λ (ys : List FragmentTree). Ok ys) (sym (append_assoc fs (f ∷ []) xs))
one_further fs f (Err e) = refl

-- ---- the loop over all `moof`s

-- the answer for the first `moof`s is known: it is that for the `moof`s that are left, behind these
abbrev pub MoofsLeft : List ℕ → MovieTree → List Box → ℕ → List FragmentTree → ℕ → List Box → Type 0
MoofsLeft file movie boxes whole fs room left = moofs_or_fault (length file) movie (record { parts = []; room = whole }) (of_kind (codes "moof") boxes)
    ≡ and_then (moofs_or_fault (length file) movie (record { parts = parts_behind movie fs; room = room }) (of_kind (codes "moof") left)) (λ more. Ok (fs ++ more))

-- the boxes of the file up to a place were passed, and the answer for all `moof`s is known so far
abbrev pub JudgedUnderWay : List ℕ → MovieTree → List Box → ℕ → ℕ → List TrackState → ℕ → ℕ → Type 0
JudgedUnderWay file movie boxes at most states whole room = (u : IsUnderWay file movie boxes at most states room) × MoofsLeft file movie boxes whole u.fragments room u.left.boxes

-- before the first `moof`
pub judged_first : (file : List ℕ) (movie : MovieTree) (boxes known : List Box) (o : Outline) (states : List TrackState) (room : ℕ) → Holds File (file_container file) known → IsOutline file known o → IsBegun file movie boxes states room
    → JudgedUnderWay file movie boxes 0 o.longest states room room
unfolding under_way_first
judged_first file movie boxes known o states room holds i b =
    let u = under_way_first file movie boxes known o states room holds i b in
    (u, ap (λ (bs : List Box). moofs_or_fault (length file) movie (record { parts = []; room = room }) (of_kind (codes "moof") bs)) u.are ∙ ok_same _)

-- the room that is left is one number
same_room : (less left counts : ℕ) → less + counts ≡ max_samples → left + counts ≡ max_samples → less ≡ left
same_room less left counts e f = omega (arith, e, f)

module _ (file : List ℕ) (movie : MovieTree) (boxes : List Box) (at most : ℕ) (start states : List TrackState) (whole room : ℕ) (b : IsBegun file movie boxes start whole)
    (u : JudgedUnderWay file movie boxes at most states whole room) (top : TopBox) (w : IsWhole (length file) top) (n : IsNextFragment file at u.0.left.boxes (Some top)) (m : Box) (bytes : List ℕ) (len L : ℕ) (r : IsRead file top m bytes len) (e : L ≡ length file) where
  -- it is the first of those that are left
  next_is : of_kind (codes "moof") u.0.left.boxes ≡ box_at file top ∷ of_kind (codes "moof") n.1
  next_is =
      let kind : bytes_eq (codes "moof") (box_at file top).kind ≡ true = rw n.5 refl in
      ap (of_kind (codes "moof")) n.2 ∙ of_kind-split (codes "moof") n.0 n.1 (box_at file top) kind ∙ ap (λ (bs : List Box). bs ++ box_at file top ∷ of_kind (codes "moof") n.1) n.3

  -- the answer for all is that for it and those behind it
  split : moofs_or_fault (length file) movie (record { parts = []; room = whole }) (of_kind (codes "moof") boxes)
      ≡ and_then (moofs_or_fault (length file) movie (record { parts = parts_behind movie u.0.fragments; room = room }) (box_at file top ∷ of_kind (codes "moof") n.1)) (λ more. Ok (u.0.fragments ++ more))
  split = u.1 ∙ ap (λ (bs : List Box). and_then (moofs_or_fault (length file) movie (record { parts = parts_behind movie u.0.fragments; room = room }) bs) (λ more. Ok (u.0.fragments ++ more))) next_is

  -- the first fault of the `moof` that was read is that of the one in the file
  its_first : (o : Option Fault) → MoofFirst L states room m o → MoofFirst (length file) states room (box_at file top) o
  its_first o h = subst (λ (k : ℕ). MoofFirst k states room (box_at file top) o) e (subst (λ (x : Box). MoofFirst L states room x o) (read_is file top m bytes len r) h)

  -- one more was passed
  pub judged_next : (new : List TrackState) (less : ℕ) → ((trexes : List Trex) → AreTrexesOf trexes states → IsSoundMoof L trexes states (tree_of m)) → AreMovedOn m.offset (pos m.offset) (of_kind (codes "traf") (children_of m)) states new room less
      → MoofFirst L states room m None → JudgedUnderWay file movie boxes top.header.end most new whole less
  judged_next new less sound moved none =
      let f = tree_of (box_at file top) in
      let v = next_passed file movie boxes at most start states whole room b u.0 top w n m bytes len L r e new less sound moved in
      let fs : v.fragments ≡ u.0.fragments ++ f ∷ [] = next_fragments file movie boxes at most start states whole room b u.0 top w n m bytes len L r e new less sound moved in
      let left : v.left.boxes ≡ n.1 = next_left file movie boxes at most start states whole room b u.0 top w n m bytes len L r e new less sound moved in
      let j = moof_judged file movie u.0.fragments (box_at file top) states room b.movie_is.sound.track_ids u.0.behind None (its_first None none) in
      let counts = ap (counted movie) fs ∙ counted_more movie u.0.fragments f in
      let here : j.0 ≡ less = same_room j.0 less _ j.2 (sym (ap (λ (k : ℕ). less + k) counts) ∙ v.behind.left) in
      let on = split
      ∙ ap (λ (x : Result (List FragmentTree) Fault). and_then x (λ more. Ok (u.0.fragments ++ more))) (j.1 (of_kind (codes "moof") n.1))
      ∙ one_further u.0.fragments f (moofs_or_fault (length file) movie (record { parts = parts_behind movie (u.0.fragments ++ f ∷ []); room = j.0 }) (of_kind (codes "moof") n.1)) in
      (v, on ∙ (λ i. and_then (moofs_or_fault (length file) movie (record { parts = parts_behind movie (sym fs i); room = here i }) (of_kind (codes "moof") (sym left i))) (λ more. Ok (sym fs i ++ more))))

  -- it has a fault
  pub judged_refused : (f : Fault) → MoofFirst L states room m (Some f) → moofs_or_fault (length file) movie (record { parts = []; room = whole }) (of_kind (codes "moof") boxes) ≡ Err f
  judged_refused f fails =
      split ∙ ap (λ (x : Result (List FragmentTree) Fault). and_then x (λ more. Ok (u.0.fragments ++ more))) (moof_judged file movie u.0.fragments (box_at file top) states room b.movie_is.sound.track_ids u.0.behind (Some f) (its_first (Some f) fails) (of_kind (codes "moof") n.1))

-- all were passed
pub all_judged : (file : List ℕ) (movie : MovieTree) (boxes : List Box) (at most : ℕ) (states : List TrackState) (whole room : ℕ) → (u : JudgedUnderWay file movie boxes at most states whole room) → IsNextFragment file at u.0.left.boxes None
    → PassesMoofs file movie boxes whole states
unfolding all_passed
all_judged file movie boxes at most states whole room u n = record {
  passed = all_passed file movie boxes at most states room u.0 n;
  judged = u.1 ∙ ap (λ (bs : List Box). and_then (moofs_or_fault (length file) movie (record { parts = parts_behind movie u.0.fragments; room = room }) bs) (λ more. Ok (u.0.fragments ++ more))) n ∙ ap (λ (fs : List FragmentTree). Ok fs) (append-nil u.0.fragments);
}

-- a read that failed names no fault
pub unread_judged : (file : List ℕ) (movie : MovieTree) (whole : ℕ) (moofs : List Box) (room at : ℕ) (honest : Bool) (reads reads_after : ℕ) (r : Refusal) → RefusesTopBox room at honest file reads reads_after r → RefusesMoofs file movie whole moofs r
unread_judged file movie whole moofs room at honest reads reads_after (refusals.Fault f) w = absurd w
unread_judged file movie whole moofs room at honest reads reads_after refusals.Memory w = tt
unread_judged file movie whole moofs room at honest reads reads_after refusals.StoreFailed w = tt
unread_judged file movie whole moofs room at honest reads reads_after refusals.StoreChanged w = tt
unread_judged file movie whole moofs room at honest reads reads_after refusals.WriteFailed w = tt
unread_judged file movie whole moofs room at honest reads reads_after refusals.NoSuchTrack w = tt
