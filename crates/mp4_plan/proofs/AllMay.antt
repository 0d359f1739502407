-- Walks over all tracks that may take some steps each, of which one moves on.
use Rattle.std.proofs.Common.{◌≡◌, ℕ, zero, suc, ◌+◌, ◌≤◌, List, [], ◌∷◌, ◌++◌, length, take, Some, refl, ap, subst, arith, slice_set}
use Rattle.std.specs.Prelude.{slice_get}
use Rattle.mp4_boxes.specs.format.Bytes.{sum_of}
use Rattle.mp4_head.specs.format.Tree.{TrackTree}
use Rattle.mp4_present.specs.declared.walking.Walk.{Walk}
use Rattle.mp4_plan.specs.words.WriterSteps.{MayAll}

module _ (May : TrackTree → Walk → ℕ → Type 0) where
  -- The walk at a place, and what it may take of all: with another one there, all may take that much more or less.
  pub record MayAt (trees : List TrackTree) (walks : List Walk) (k : ℕ) (w : Walk) (n : ℕ) : Type 0 where
    pub t : TrackTree
    pub own : ℕ
    pub others : ℕ
    pub is_tree : slice_get trees k ≡ Some t
    pub may : May t w own
    pub sum : n ≡ own + others
    pub moved : (now : Walk) (rest : ℕ) → May t now rest → MayAll May trees (slice_set walks k now) (rest + others)

  pub may_at : (trees : List TrackTree) (walks : List Walk) (k : ℕ) (w : Walk) (n : ℕ) → MayAll May trees walks n → slice_get walks k ≡ Some w → MayAt trees walks k w n
  may_at [] [] k w n h is = absurd cc
  may_at [] (v ∷ walks) k w n h is = absurd h
  may_at (t ∷ trees) [] k w n h is = absurd h
  may_at (t ∷ trees) (v ∷ walks) zero w n h is =
      let same : v ≡ w = cc in
      record {
        t = t;
        own = h.0;
        others = h.1;
        is_tree = refl;
        may = subst (λ (x : Walk). May t x h.0) same h.2;
        sum = h.4;
        moved = λ now rest m. (rest, h.1, m, h.3, refl);
      }
  may_at (t ∷ trees) (v ∷ walks) (suc k) w n h is =
      let r = may_at trees walks k w h.1 h.3 is in
      let all = h.4 in
      let some = r.sum in
      record {
        t = r.t;
        own = r.own;
        others = h.0 + r.others;
        is_tree = r.is_tree;
        may = r.may;
        sum = omega (arith, all, some);
        moved = λ now rest m. (h.0, rest + r.others, h.2, r.moved now rest m, omega arith);
      }

  -- one walk of all moves on
  pub one_moves : (trees : List TrackTree) (walks : List Walk) (k : ℕ) (w now : Walk) (n old new : ℕ) → MayAll May trees walks n → slice_get walks k ≡ Some w → ((t : TrackTree) (own : ℕ) → May t w own → (rest : ℕ) × May t now rest × (new + rest ≤ old + own))
      → (rest : ℕ) × MayAll May trees (slice_set walks k now) rest × (new + rest ≤ old + n)
  one_moves trees walks k w now n old new h is takes =
      let r = may_at trees walks k w n h is in
      let on = takes r.t r.own r.may in
      let all = r.sum in
      let within = on.2 in
      (on.0 + r.others, r.moved now on.0 on.1, omega (arith, all, within))

  -- it takes no more than all may
  pub one_ends : (trees : List TrackTree) (walks : List Walk) (k : ℕ) (w : Walk) (n old new : ℕ) → MayAll May trees walks n → slice_get walks k ≡ Some w → ((t : TrackTree) (own : ℕ) → May t w own → new ≤ old + own) → new ≤ old + n
  one_ends trees walks k w n old new h is stops =
      let r = may_at trees walks k w n h is in
      let within = stops r.t r.own r.may in
      let all = r.sum in
      omega (arith, all, within)

  -- ---- walks that begin

  more_behind : (trees : List TrackTree) (walks : List Walk) (k : ℕ) (t : TrackTree) (w : Walk) (n most : ℕ) → MayAll May (take k trees) walks n → length walks ≡ k → slice_get trees k ≡ Some t → May t w most → MayAll May (take (suc k) trees) (walks ++ w ∷ []) (n + most)
  more_behind [] walks zero t w n most h many is m = absurd cc
  more_behind [] walks (suc k) t w n most h many is m = absurd cc
  more_behind (u ∷ trees) [] zero t w n most h many is m =
      let same : t ≡ u = cc in
      let none : n ≡ 0 = h in
      (most, 0, subst (λ (v : TrackTree). May v w most) same m, refl, omega (arith, none))
  more_behind (u ∷ trees) (v ∷ walks) zero t w n most h many is m = absurd (omega (arith, many))
  more_behind (u ∷ trees) [] (suc k) t w n most h many is m = absurd (omega (arith, many))
  more_behind (u ∷ trees) (v ∷ walks) (suc k) t w n most h many is m =
      let all = h.4 in
      (h.0, h.1 + most, h.2, more_behind trees walks k t w h.1 most h.3 (omega (arith, many)) is m, omega (arith, all))

  -- no more steps than so many for each track
  abbrev pub MayWithin : (TrackTree → ℕ) → List TrackTree → List Walk → Type 0
  MayWithin most trees walks = (n : ℕ) × MayAll May trees walks n × (n ≤ sum_of most trees)

  -- one more behind the others
  pub may_more : (trees : List TrackTree) (walks : List Walk) (k : ℕ) (t : TrackTree) (w : Walk) (most : TrackTree → ℕ) → MayWithin most (take k trees) walks → length walks ≡ k → slice_get trees k ≡ Some t
      → (n : ℕ) × May t w n × (n ≤ most t) → MayWithin most (take (k + 1) trees) (walks ++ w ∷ [])
  may_more trees walks k t w most h many is m =
      let next : suc k ≡ k + 1 = omega arith in
      let both = more_behind trees walks k t w h.0 m.0 h.1 many is m.1 in
      let sum = sum_behind trees k is in
      let first = h.2 in
      let second = m.2 in
      subst (λ i. MayWithin most (take i trees) (walks ++ w ∷ [])) next (h.0 + m.0, both, omega (arith, sum, first, second))
    where
      sum_behind : (trees : List TrackTree) (k : ℕ) → slice_get trees k ≡ Some t → sum_of most (take (suc k) trees) ≡ sum_of most (take k trees) + most t
      sum_behind [] k is = absurd cc
      sum_behind (u ∷ trees) zero is = let same : most u ≡ most t = ap most (let e : u ≡ t = cc in e) in omega (arith, same)
      sum_behind (u ∷ trees) (suc k) is = let rest = sum_behind trees k is in omega (arith, rest)
