-- Of two walks over one track the one further on has fewer `traf`s before it.
use Rattle.std.proofs.Common.{◌≡◌, ◌⊎◌, inl, inr, ℕ, zero, suc, ◌+◌, ◌<◌, ◌≤◌, List, [], ◌∷◌, ◌++◌, length, drop, Some, None, refl, sym, ap, subst, ◌∙◌, arith, length-append}
use Rattle.std.specs.Prelude.{Option, slice_get}
use Rattle.std.proofs.lemmas.List.{length-drop}
use Rattle.mp4_tables.specs.format.PlainSamples.{PlacedSample}
use Rattle.mp4_tables.proofs.SampleLists.{timed_length}
use Rattle.mp4_tables.specs.declared.sample.SampleAt.{SampleAt}
use Rattle.mp4_frag.specs.words.OwnTrafs.{PlacedTraf, placed_samples, traf_steps}
use Rattle.mp4_frag.specs.words.Walks.{samples_coming}
use Rattle.mp4_head.specs.format.Tree.{TrackTree}
use Rattle.mp4_present.specs.format.Denotes.{FileTree}
use Rattle.mp4_present.specs.words.GoingBack.{HoldsSome}
use Rattle.mp4_present.specs.words.InHand.{left_in_hand}
use Rattle.mp4_present.specs.words.Movies.{MovieSeen, IsWalkOf, IsRest, HandAt, HasSome, all_in_traf, traf_box}
use Rattle.mp4_present.specs.words.OpenedMovie.{IsOpenedAs}
use Rattle.mp4_present.specs.words.SamplesComing.{Comes, HoldsLast, StandsBefore, count_behind, due_behind, samples_behind, track_keys}
use Rattle.mp4_present.specs.words.WalkSteps.{trafs_steps, way_through}
use Rattle.mp4_present.specs.declared.walking.in_hand.InHand.{InHand}
use Rattle.mp4_present.specs.declared.walking.in_hand.InHand.TheVariants as hands
use Rattle.mp4_present.specs.declared.walking.in_hand.Place.{Place}
use Rattle.mp4_present.specs.declared.walking.in_hand.Place.TheVariants.{Tables, Fragment}
use Rattle.mp4_present.specs.declared.track_info.TrackInfo.{TrackInfo}
use Rattle.mp4_present.specs.declared.walking.Due.{Due}
use Rattle.mp4_present.specs.declared.walking.Walk.{Walk}
use Rattle.mp4_present.proofs.OwnPlaced.{placed_append}
use Rattle.mp4_present.proofs.WayThrough.{same_steps}
use Rattle.mp4_plan.specs.words.WriterSteps.{last_steps, again_steps}
use Rattle.mp4_content.proofs.WalksOn.{one_hand}
use Rattle.mp4_boxes.proofs.Plain.{get_some}
use Rattle.mp4_tables.proofs.Sums.{sum_joined}

-- ---- lists

-- a front that is no longer
cut : {A : Type 0} (xs bs ys cs : List A) → xs ++ bs ≡ ys ++ cs → length xs ≤ length ys → (mid : List A) × (ys ≡ xs ++ mid) × (bs ≡ mid ++ cs)
cut [] bs ys cs e le = (ys, refl, e)
cut (x ∷ xs) bs [] cs e le = absurd (omega (arith, le))
cut (x ∷ xs) bs (y ∷ ys) cs e le =
    let same : y ≡ x = cc in
    let rest : xs ++ bs ≡ ys ++ cs = cc in
    let r = cut xs bs ys cs rest (omega (arith, le)) in
    (r.0, (λ i. same i ∷ r.1 i), r.2)

cut_same : {A : Type 0} (xs bs ys cs : List A) → xs ++ bs ≡ ys ++ cs → length xs ≡ length ys → (xs ≡ ys) × (bs ≡ cs)
cut_same [] bs [] cs e n = (refl, e)
cut_same [] bs (y ∷ ys) cs e n = absurd (omega (arith, n))
cut_same (x ∷ xs) bs [] cs e n = absurd (omega (arith, n))
cut_same (x ∷ xs) bs (y ∷ ys) cs e n =
    let same : x ≡ y = cc in
    let rest : xs ++ bs ≡ ys ++ cs = cc in
    let r = cut_same xs bs ys cs rest (omega (arith, n)) in
    ((λ i. same i ∷ r.0 i), r.1)

pub lt_or_le : (n k : ℕ) → (n < k) ⊎ (k ≤ n)
lt_or_le n zero = inr (omega arith)
lt_or_le zero (suc k) = inl (omega arith)
lt_or_le (suc n) (suc k) = by (lt_or_le n k)
  where
    by : (n < k) ⊎ (k ≤ n) → (suc n < suc k) ⊎ (suc k ≤ suc n)
    by (inl lt) = inl (omega (arith, lt))
    by (inr le) = inr (omega (arith, le))

-- ---- steps

pub steps_append : (xs ys : List PlacedTraf) → trafs_steps (xs ++ ys) ≡ trafs_steps xs + trafs_steps ys
steps_append xs ys = sum_joined (λ (p : PlacedTraf). traf_steps p.traf) xs ys

last_append : (n : ℕ) (xs ys : List PlacedTraf) → last_steps n (xs ++ ys) ≡ last_steps (last_steps n xs) ys
last_append n [] ys = refl
last_append n (x ∷ xs) ys = last_append (traf_steps x.traf) xs ys

last_few : (n : ℕ) (ys : List PlacedTraf) → last_steps n ys ≤ n + trafs_steps ys
last_few n [] = omega arith
last_few n (y ∷ ys) = let r = last_few (traf_steps y.traf) ys in omega (arith, r)

pub last_of : (n : ℕ) (front : List PlacedTraf) (last : PlacedTraf) → last_steps n (front ++ last ∷ []) ≡ traf_steps last.traf
last_of n [] last = refl
last_of n (x ∷ xs) last = last_of (traf_steps x.traf) xs last

-- the steps to come once more are fewer further on
pub last_more : (earlier mid : List PlacedTraf) → last_steps 0 (earlier ++ mid) ≤ last_steps 0 earlier + trafs_steps mid
last_more earlier mid = let split = last_append 0 earlier mid in let few = last_few (last_steps 0 earlier) mid in omega (arith, split, few)

-- ---- two walks over one track

module _ (file : List ℕ) (m : MovieSeen) (tree : FileTree) (o : IsOpenedAs file m tree) where
  module _ (t : TrackTree) (ea la eb lb : List PlacedTraf) (a b : Walk) (s : StandsBefore file tree t ea la a) (r : StandsBefore file tree t eb lb b) where
    -- some stand between them
    pub between : a.next ≤ b.next → (mid : List PlacedTraf) × (eb ≡ ea ++ mid) × (la ≡ mid ++ lb)
    between le = let own = s.place in let other = r.place in cut ea la eb lb (sym s.split ∙ r.split) (omega (arith, le, own, other))

    pub again_less : a.next ≤ b.next → again_steps eb lb ≤ again_steps ea la
    again_less le =
        let k = between le in
        let last = ap (last_steps 0) k.1 in
        let few = last_more ea k.0 in
        let sum = ap trafs_steps k.2 ∙ steps_append k.0 lb in
        omega (arith, last, few, sum)

    pub left_less : a.next ≤ b.next → trafs_steps lb ≤ trafs_steps la
    left_less le = let k = between le in let sum = ap trafs_steps k.2 ∙ steps_append k.0 lb in omega (arith, sum)

    -- the one has loaded a `traf` behind the other
    pub ahead_of : (d : Due) → a.next < b.next → HoldsLast file tree t eb lb b (Some d) → (front mid : List PlacedTraf) × (last : PlacedTraf) × (eb ≡ front ++ last ∷ []) × (la ≡ mid ++ last ∷ lb)
    ahead_of d lt h =
        let own = s.place in
        let other = h.3.place in
        let c = cut ea la h.0 (h.1 ∷ lb) (sym s.split ∙ h.3.split) (omega (arith, lt, own, other)) in
        (h.0, c.0, h.1, h.2, c.2)

  -- where the same one is the next, they stand between the same
  pub one_place : (t : TrackTree) (ea la eb lb : List PlacedTraf) (a b : Walk) → StandsBefore file tree t ea la a → StandsBefore file tree t eb lb b → a.next ≡ b.next → (ea ≡ eb) × (la ≡ lb)
  one_place t ea la eb lb a b s r e =
      let own = s.place in
      let other = r.place in
      cut_same ea la eb lb (sym s.split ∙ r.split) (omega (arith, e, own, other))

  pub held_some : (t : TrackTree) (e l : List PlacedTraf) (w : Walk) (b : Option Due) (d : Due) → b ≡ Some d → HoldsLast file tree t e l w b → HoldsLast file tree t e l w (Some d)
  held_some t e l w None d is h = absurd cc
  held_some t e l w (Some c) d is h = let same : c ≡ d = cc in subst (λ (x : Due). HoldsLast file tree t e l w (Some x)) same h

  -- the way through the `traf` in hand
  pub way_some : (t : TrackTree) (e l : List PlacedTraf) (w : Walk) → IsWalkOf m w → StandsBefore file tree t e l w → (d : Due) → w.before ≡ Some d → way_through t w w.place ≡ last_steps 0 e
  way_some t e l w i s d is =
      let h = held_some t e l w w.before d is s.held in
      by w.before w.place i.rest is ∙ same_steps file tree t h.0 h.1 l _ h.3 ∙ sym (last_of 0 h.0 h.1) ∙ ap (last_steps 0) (sym h.2)
    where
      by : (b : Option Due) (q : Place) → IsRest m w b q → b ≡ Some d → way_through t w q ≡ traf_steps (traf_box w)
      by None q r e = absurd cc
      by (Some c) (Tables p) r e = absurd r
      by (Some c) (Fragment p) r e = refl

  -- of the `traf` that is in hand no more samples are left than it has
  hand_few : (w : Walk) (d : Due) (info : TrackInfo) → slice_get m.tracks w.track ≡ Some info → (b : Option Due) (q : Place) (hand : InHand) → b ≡ Some d → IsRest m w b q → HandAt m w q hand → length (left_in_hand hand) ≤ length (all_in_traf m w info d)
  hand_few w d info at None q hand is r h = absurd cc
  hand_few w d info at (Some c) (Tables p) hand is r h = absurd r
  hand_few w d info at (Some c) (Fragment p) (hands.Tables v) is r h = absurd h
  hand_few w d info at (Some c) (Fragment p) (hands.Fragment v) is r h =
      let same : c ≡ d = cc in
      let few = r info at in
      let left : left_in_hand (hands.Fragment v) ≡ drop few.0 (all_in_traf m w info c) = ap samples_coming h ∙ few.1 in
      let long = ap (λ (ss : List SampleAt). length ss) left ∙ length-drop few.0 (all_in_traf m w info c) in
      let time = ap (λ (x : Due). length (all_in_traf m w info x)) same in
      omega (arith, long, time)

  -- how many samples there are in some `traf`s
  behind_long : (t : TrackTree) (earlier later : List PlacedTraf) → length (samples_behind tree t earlier later) ≡ length (placed_samples later)
  behind_long t earlier later = timed_length (track_keys tree t) (count_behind t earlier) (due_behind tree t earlier) (placed_samples later)

  last_same : (front : List PlacedTraf) (last : PlacedTraf) (other : List PlacedTraf) (next : PlacedTraf) → front ++ last ∷ [] ≡ other ++ next ∷ [] → next ≡ last
  last_same [] last [] next e = cc
  last_same [] last (y ∷ []) next e = absurd cc
  last_same [] last (y ∷ z ∷ other) next e = absurd cc
  last_same (x ∷ []) last [] next e = absurd cc
  last_same (x ∷ z ∷ front) last [] next e = absurd cc
  last_same (x ∷ front) last (y ∷ other) next e = let rest : front ++ last ∷ [] ≡ other ++ next ∷ [] = cc in last_same front last other next rest

  -- Of two walks before as many samples that which has loaded a `traf` is not further on, where some are in the other's hand, or none are to come.
  module _ (t : TrackTree) (a e : Walk) (those samples : List SampleAt) (ka : Comes file tree t m a those) (ke : Comes file tree t m e samples) (as_many : length those ≡ length samples) (i : IsWalkOf m a) (s : HoldsSome m a) where
    both : (w : Walk) (ss : List SampleAt) (k : Comes file tree t m w ss) → length ss ≡ length (left_in_hand k.2) + w.left
    both w ss k = let left = k.3.0.left in let split = ap (λ (ss : List SampleAt). length ss) k.3.2 ∙ length-append (left_in_hand k.2) (samples_behind tree t k.0 k.1) in omega (arith, left, split)

    few_in_hand : length (left_in_hand ka.2) + a.left ≤ s.before.left
    few_in_hand =
        let info = get_some m.tracks a.track i.goes_on.track in
        let few = hand_few a s.before info.0 info.1 a.before a.place ka.2 s.is_before i.rest ka.3.1 in
        let all = s.all info.0 info.1 in
        omega (arith, few, all)

    behind_more : (mid : List PlacedTraf) (last : PlacedTraf) (earlier later front : List PlacedTraf) → length (samples_behind tree t front (last ∷ later)) ≤ length (samples_behind tree t earlier (mid ++ last ∷ later))
    behind_more mid last earlier later front =
        let one = behind_long t front (last ∷ later) in
        let all = behind_long t earlier (mid ++ last ∷ later) in
        let split = ap (λ (ss : List PlacedSample). length ss) (placed_append mid (last ∷ later)) ∙ length-append (placed_samples mid) (placed_samples (last ∷ later)) in
        omega (arith, one, all, split)

    none_before : e.next < a.next → (length (left_in_hand ke.2) ≡ 0) × (0 < length samples)
    none_before lt =
        let h = held_some t ka.0 ka.1 a a.before s.before s.is_before ka.3.0.held in
        let k = ahead_of t ke.0 ke.1 ka.0 ka.1 e a ke.3.0 ka.3.0 s.before lt h in
        let more = behind_more k.1 k.2 ke.0 ka.1 h.0 in
        let all = ap (λ (ps : List PlacedTraf). length (samples_behind tree t ke.0 ps)) k.4 in
        let same = last_same h.0 h.1 k.0 k.2 (sym h.2 ∙ k.3) in
        let own = ap (λ (p : PlacedTraf). length (samples_behind tree t h.0 (p ∷ ka.1))) same in
        let had = h.3.left in
        let few = few_in_hand in
        let some = s.some in
        let left = ke.3.0.left in
        let one = both a those ka in
        let two = both e samples ke in
        (omega (arith, more, all, own, had, few, some, left, one, two, as_many), omega (arith, more, all, own, had, few, some, left, one, two, as_many))

    pub not_before : HasSome m e ⊎ (samples ≡ []) → a.next ≤ e.next
    not_before some = by (lt_or_le e.next a.next) some
      where
        by : (e.next < a.next) ⊎ (a.next ≤ e.next) → HasSome m e ⊎ (samples ≡ []) → a.next ≤ e.next
        by (inr le) some = le
        by (inl lt) (inl h) =
            let none = (none_before lt).0 in
            let hand = ap (λ (ss : List SampleAt). length ss) (one_hand m e ke.2 h.0 ke.3.1 h.1) in
            let more = h.2 in
            absurd (omega (arith, none, hand, more))
        by (inl lt) (inr none) =
            let some = (none_before lt).1 in
            let long = ap (λ (ss : List SampleAt). length ss) none in
            absurd (omega (arith, some, long))
