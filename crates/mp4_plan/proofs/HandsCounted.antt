-- Samples that are counted over the `moof`s that they are in.
use Rattle.std.proofs.Common.{◌≡◌, ℕ, zero, suc, ◌+◌, ◌<◌, Bool, true, false, cond, List, [], ◌∷◌, ◌++◌, length, drop, Some, None, refl, sym, ap, subst, ◌∙◌, arith}
use Rattle.std.specs.Prelude.{Option, slice_get}
use Rattle.std.specs.List.{prefix_len}
use Rattle.std.proofs.lemmas.List.{drop-drop, length-drop}
use Rattle.mp4_tables.specs.declared.sample.SampleAt.{SampleAt}
use Rattle.mp4_head.specs.format.Tree.{TrackTree}
use Rattle.mp4_present.specs.format.Denotes.{FileTree}
use Rattle.mp4_present.specs.words.InHand.{left_in_hand}
use Rattle.mp4_present.specs.words.Movies.{MovieSeen, InHandOf}
use Rattle.mp4_present.specs.words.OpenedMovie.{IsOpenedAs}
use Rattle.mp4_present.specs.words.SamplesComing.{samples_behind}
use Rattle.mp4_present.specs.declared.walking.in_hand.InHand.{InHand}
use Rattle.mp4_present.specs.declared.walking.in_hand.Place.{Place}
use Rattle.mp4_content.specs.declared.reduced.Reduction.{Reduction}
use Rattle.mp4_present.specs.declared.walking.Walk.{Walk}
use Rattle.mp4_content.specs.words.ComingLess.{ComesLess, less}
use Rattle.mp4_plan.specs.words.Counting.{CountsFirst, HandCounted, HasCounted, PieceCounted}
use Rattle.mp4_plan.specs.words.Ends.{goes_in, has_ended, first_goes}
use Rattle.mp4_plan.specs.words.Gathering.{count_of, more_of, piece_fed, piece_from}
use Rattle.mp4_plan.specs.declared.ends.End.{End}
use Rattle.mp4_plan.proofs.HandsTaken.{counted_fed}
use Rattle.mp4_plan.proofs.PieceCarried.{LoadsFor, EndsFor}
use Rattle.mp4_plan.proofs.PieceFed.{fed_coming, hand_less, nothing_left}
use Rattle.mp4_plan.proofs.PlannerSteps.{none_is}
use Rattle.mp4_content.proofs.WalksOn.{hand_none, loads_none, loads_on}
use Rattle.mp4_present.proofs.JoinedSamples.{first_of}

-- ---- one sample after the other

module _ (test : SampleAt → Bool) where
  -- none yet
  pub counts_none : (all : List SampleAt) → CountsFirst test 0 all all
  counts_none all = record { few = omega arith; same = omega arith; rest = refl }

  -- some and some more
  pub counts_then : (a b : ℕ) (xs ys zs : List SampleAt) → CountsFirst test a xs ys → CountsFirst test b ys zs → CountsFirst test (a + b) xs zs
  counts_then a b xs ys zs h k =
      let p = h.same in
      let q = k.same in
      let few = h.few in
      let more = k.few in
      let long = ap (λ (l : List SampleAt). length l) h.rest in
      record {
        few = omega (arith, few, more, long, length-drop a xs);
        same = omega (arith, p, q);
        rest = k.rest ∙ ap (drop b) h.rest ∙ drop-drop b a xs;
      }

  -- in front of others
  pub counts_front : (n : ℕ) (xs ys zs : List SampleAt) → CountsFirst test n xs ys → CountsFirst test n (xs ++ zs) (ys ++ zs)
  counts_front zero xs ys zs h = subst (λ (l : List SampleAt). CountsFirst test 0 (xs ++ zs) (l ++ zs)) (sym h.rest) (counts_none (xs ++ zs))
  counts_front (suc n) [] ys zs h = let few = h.few in absurd (omega (arith, few))
  counts_front (suc n) (x ∷ xs) ys zs h = by (test x) refl (counts_front n xs ys zs)
    where
      by : (v : Bool) → test x ≡ v → (CountsFirst test n xs ys → CountsFirst test n (xs ++ zs) (ys ++ zs)) → CountsFirst test (suc n) (x ∷ xs ++ zs) (ys ++ zs)
      by false e more_front =
          let none : prefix_len test (x ∷ xs) ≡ 0 = ap (λ b. cond b (1 + prefix_len test xs) 0) e in
          let same = h.same in
          absurd (omega (arith, none, same))
      by true e more_front =
          let one : prefix_len test (x ∷ xs) ≡ 1 + prefix_len test xs = ap (λ b. cond b (1 + prefix_len test xs) 0) e in
          let all : prefix_len test (x ∷ xs ++ zs) ≡ 1 + prefix_len test (xs ++ zs) = ap (λ b. cond b (1 + prefix_len test (xs ++ zs)) 0) e in
          let same = h.same in
          let few = h.few in
          let r = more_front (record { few = omega (arith, few); same = omega (arith, same, one); rest = h.rest }) in
          let more = r.few in
          let rest = r.same in
          record { few = omega (arith, more); same = omega (arith, all, rest); rest = r.rest }

  first_in : (xs ys : List SampleAt) (s : SampleAt) → Some s ≡ slice_get xs 0 → Some s ≡ slice_get (xs ++ ys) 0
  first_in [] ys s e = absurd cc
  first_in (x ∷ xs) ys s e = e

  -- the next one does not pass, so none does
  none_passes : (left : List SampleAt) (s : SampleAt) → Some s ≡ slice_get left 0 → test s ≡ false → prefix_len test left ≡ 0
  none_passes left s first stops = ap (prefix_len test) (first_of left s first) ∙ ap (λ b. cond b (1 + prefix_len test (drop 1 left)) 0) stops

-- ---- over a walk

-- So many samples of those that were to come pass and are counted, and the others still come.
pub record Counts (leaving : Reduction) (file : List ℕ) (tree : FileTree) (t : TrackTree) (m : MovieSeen) (w : Walk) (test : SampleAt → Bool) (n : ℕ) (samples : List SampleAt) : Type 0 where
  pub left : List SampleAt
  pub first : CountsFirst test n samples left
  pub comes : ComesLess leaving file tree t m w left

abbrev pub CountsOn : Reduction → List ℕ → MovieSeen → Walk → Walk → (SampleAt → Bool) → ℕ → Type 0
CountsOn leaving file m begun w test n = (tree : FileTree) (t : TrackTree) (samples : List SampleAt) → IsOpenedAs file m tree → ComesLess leaving file tree t m begun samples → Counts leaving file tree t m w test n samples

pub counts_new : (leaving : Reduction) (file : List ℕ) (m : MovieSeen) (w : Walk) (test : SampleAt → Bool) → CountsOn leaving file m w w test 0
counts_new leaving file m w test tree t samples o c = record { left = samples; first = counts_none test samples; comes = c }

module _ (leaving : Reduction) (file : List ℕ) (m : MovieSeen) (begun w now : Walk) (test : SampleAt
    → Bool) (most n more : ℕ) (next : Option SampleAt) (place : Place) (on : CountsOn leaving file m begun w test n) (h : HandCounted leaving m w test most more next place) (is : now ≡ record w { place = place }) where
  -- those in hand were counted
  pub hand_counted : CountsOn leaving file m begun now test (n + more)
  hand_counted tree t samples o c =
      let u = on tree t samples o c in
      let k = u.comes in
      let behind = less leaving (samples_behind tree t k.comes.0 k.comes.1) in
      let whole = hand_less leaving file m tree t w u.left k h.hand h.is_hand in
      record {
        left = less leaving (left_in_hand h.later) ++ behind;
        first = counts_then test n more samples u.left (less leaving (left_in_hand h.later) ++ behind) u.first (subst (λ (l : List SampleAt). CountsFirst test more l (less leaving (left_in_hand h.later) ++ behind)) (sym whole) (counts_front test more (less leaving
            (left_in_hand h.hand)) (less leaving (left_in_hand h.later)) behind h.counts));
        comes = fed_coming leaving file m tree t w now place u.left k h.later h.is_later is;
      }

  -- what is left begins with the next one in hand
  first_left : (s : SampleAt) → next ≡ Some s → (tree : FileTree) (t : TrackTree) (samples : List SampleAt) → IsOpenedAs file m tree → ComesLess leaving file tree t m begun samples → (c : Counts leaving file tree t m now test (n + more) samples) × (next ≡ slice_get c.left 0)
  first_left s e tree t samples o c =
      let u = on tree t samples o c in
      let behind = less leaving (samples_behind tree t u.comes.comes.0 u.comes.comes.1) in
      let first = first_in test (less leaving (left_in_hand h.later)) behind s (sym e ∙ h.shown) in
      let whole = hand_less leaving file m tree t w u.left u.comes h.hand h.is_hand in (
        record {
          left = less leaving (left_in_hand h.later) ++ behind;
          first = counts_then test n more samples u.left (less leaving (left_in_hand h.later) ++ behind) u.first (subst (λ (l : List SampleAt). CountsFirst test more l (less leaving (left_in_hand h.later) ++ behind)) (sym whole) (counts_front test more (less leaving
              (left_in_hand h.hand)) (less leaving (left_in_hand h.later)) behind h.counts));
          comes = fed_coming leaving file m tree t w now place u.left u.comes h.later h.is_later is;
        },
        e ∙ first,
      )

  -- the next one does not pass
  pub count_ended : (s : SampleAt) → next ≡ Some s → test s ≡ false → (tree : FileTree) (t : TrackTree) (samples : List SampleAt) → IsOpenedAs file m tree → ComesLess leaving file tree t m begun samples → HasCounted leaving file tree t m now test samples (n + more) next
  count_ended s e stops tree t samples o c =
      let r = first_left s e tree t samples o c in
      let u = r.0 in
      let none = none_passes test u.left s (sym e ∙ r.1) stops in
      let same = u.first.same in
      record {
        counts = omega (arith, none, same);
        comes = subst (λ (l : List SampleAt). ComesLess leaving file tree t m now l) u.first.rest u.comes;
        shown = r.1 ∙ ap (λ (l : List SampleAt). slice_get l 0) u.first.rest;
      }

  -- it passes, so they are more than there was room for
  pub count_full : (s : SampleAt) → next ≡ Some s → test s ≡ true → (tree : FileTree) (t : TrackTree) (samples : List SampleAt) → IsOpenedAs file m tree → ComesLess leaving file tree t m begun samples → n + most < length samples
  count_full s e passes tree t samples o c =
      let r = first_left s e tree t samples o c in
      let u = r.0 in
      let full = h.stops s e passes in
      let few = u.first.few in
      let long = ap (λ (l : List SampleAt). length l) (sym u.first.rest ∙ first_of u.left s (sym e ∙ r.1)) in
      omega (arith, full, few, long, length-drop (n + more) samples)

  -- none is left in hand
  pub count_empty : next ≡ None → less leaving (left_in_hand h.later) ≡ []
  count_empty e = none_is (less leaving (left_in_hand h.later)) (sym e ∙ h.shown)

module _ (leaving : Reduction) (file : List ℕ) (m : MovieSeen) (begun w next : Walk) (test : SampleAt → Bool) (n : ℕ) (hand : InHand) (more : Bool) (on : CountsOn leaving file m begun w test n) (is_hand : InHandOf m w hand) (none : less leaving (left_in_hand hand) ≡ [])
    (loads : LoadsFor file m w next more) where
  -- more was loaded
  pub next_counted : more ≡ true → CountsOn leaving file m begun next test n
  next_counted e tree t samples o c =
      let u = on tree t samples o c in
      let k = u.comes in
      record {
        left = u.left;
        first = u.first;
        comes = record { samples = k.samples; comes = loads_on file m tree t w next k.samples k.comes hand is_hand (nothing_left leaving (left_in_hand hand) none) more e (loads tree t k.comes.0 k.comes.1 o k.comes.3.0); is_left = k.is_left };
      }

  -- nothing was loaded
  pub none_counted : more ≡ false → EndsFor file m w next more → (tree : FileTree) (t : TrackTree) (samples : List SampleAt) → IsOpenedAs file m tree → ComesLess leaving file tree t m begun samples → HasCounted leaving file tree t m next test samples n None
  none_counted e ends tree t samples o c =
      let u = on tree t samples o c in
      let k = u.comes in
      let empty = nothing_left leaving (left_in_hand hand) none in
      let z : u.left ≡ [] = k.is_left ∙ ap (less leaving) (loads_none file m tree t w next k.samples k.comes hand is_hand empty more e (loads tree t k.comes.0 k.comes.1 o k.comes.3.0)) in
      let over : drop n samples ≡ [] = sym u.first.rest ∙ z in
      let same = u.first.same in
      let last = ap (prefix_len test) z in
      record {
        counts = omega (arith, same, last);
        comes = subst (λ (l : List SampleAt). ComesLess leaving file tree t m next l) (sym over) (record { samples = []; comes = ends tree t k.comes.0 k.comes.1 o k.comes.3.0 k.comes.2 k.comes.3.1 (hand_none file m tree t w next k.samples k.comes hand is_hand empty) e; is_left = refl });
        shown = sym (ap (λ (l : List SampleAt). slice_get l 0) over);
      }

-- ---- a turn

-- as many as pass go into a piece that the first one begins
begun_by : (end : End) (s : SampleAt) (samples : List SampleAt) → Some s ≡ slice_get samples 0 → more_of (piece_from end) samples ≡ prefix_len (goes_in end s.description) samples
unfolding more_of
begun_by end s samples first = ap (more_of (piece_from end)) (first_of samples s first) ∙ sym (ap (prefix_len (goes_in end s.description)) (first_of samples s first))

pub turn_counted : (leaving : Reduction) (file : List ℕ) (tree : FileTree) (t : TrackTree) (m : MovieSeen) (w : Walk) (end : End) (s : SampleAt) (samples : List SampleAt) (n : ℕ) (next : Option SampleAt) → Some s ≡ slice_get samples 0
    → HasCounted leaving file tree t m w (goes_in end s.description) samples n next → PieceCounted leaving file tree t m w end samples n next
turn_counted leaving file tree t m w end s samples n next first h =
    let is = begun_by end s samples first in
    let same : n ≡ more_of (piece_from end) samples = h.counts ∙ sym is in
    let all = counted_fed (piece_from end) samples in
    record {
      counts = omega (arith, same, all);
      comes = subst (λ i. ComesLess leaving file tree t m w (drop i samples)) same h.comes;
      shown = h.shown ∙ ap (λ i. slice_get (drop i samples) 0) same;
    }

-- a turn in which none goes into a piece
pub turn_empty : (leaving : Reduction) (file : List ℕ) (tree : FileTree) (t : TrackTree) (m : MovieSeen) (w : Walk) (end : End) (samples : List SampleAt) (next : Option SampleAt) → next ≡ slice_get samples 0 → more_of (piece_from end) samples ≡ 0 → ComesLess leaving file tree t m w samples
    → PieceCounted leaving file tree t m w end samples 0 next
turn_empty leaving file tree t m w end samples next first none comes =
    let all = counted_fed (piece_from end) samples in
    record {
      counts = omega (arith, none, all);
      comes = subst (λ i. ComesLess leaving file tree t m w (drop i samples)) (sym none) comes;
      shown = first ∙ sym (ap (λ i. slice_get (drop i samples) 0) none);
    }

-- the piece has as many samples as are counted
pub piece_size_is : (end : End) (samples : List SampleAt) (n : ℕ) → n ≡ count_of (piece_fed (piece_from end) samples).gathered → n ≡ more_of (piece_from end) samples
piece_size_is end samples n e = let all = counted_fed (piece_from end) samples in omega (arith, e, all)

pub ended_first : (end : End) (s : SampleAt) (v : Bool) → v ≡ has_ended end s → v ≡ true → first_goes end (Some s) ≡ false
ended_first end s v e f = rw (sym e ∙ f) refl
