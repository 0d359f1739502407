-- What was fed of a hand.
use Rattle.std.proofs.Common.{◌≡◌, ℕ, zero, suc, ◌+◌, ◌<◌, ◌≤◌, Bool, true, false, List, [], ◌∷◌, ◌++◌, length, take, drop, Some, refl, sym, ap, subst, ◌∙◌, length-append, arith}
use Rattle.std.specs.Prelude.{slice_get}
use Rattle.std.proofs.Math.Seq.{take-append-add}
use Rattle.std.proofs.lemmas.List.{length-take, length-drop, take_at, drop_at}
use Rattle.std.proofs.lemmas.List.Sums.{prefix_len-le-length}
use Rattle.mp4_tables.specs.declared.sample.SampleAt.{SampleAt}
use Rattle.mp4_plan.specs.words.Ends.{goes_in}
use Rattle.mp4_plan.specs.words.Gathering.{Planning, description_in, gather, gather_all, count_of, more_of, piece_fed, samples_after}
use Rattle.mp4_plan.specs.words.HandsFed.{TakesFirst, stop_of, HasTaken}
use Rattle.mp4_plan.proofs.PlannerSteps.{more_of_yes, more_of_no, more_of-nil, all_counted}

-- a piece with some samples more
abbrev with_all : Planning → List SampleAt → Planning
with_all p ts = record { end = p.end; gathered = gather_all p.gathered ts }

-- where at least these go in, the others are judged as behind them
more_behind : (p : Planning) (ts ys zs : List SampleAt) → length ts ≤ more_of p (ts ++ ys) → more_of p (ts ++ zs) ≡ length ts + more_of (with_all p ts) zs
more_behind p [] ys zs le = omega arith
more_behind p (t ∷ ts) ys zs le = by (goes_in p.end (description_in p.gathered (t ∷ [])) t) refl (λ m. more_behind (record { end = p.end; gathered = gather p.gathered t }) ts ys zs m)
  where
    next : Planning
    next = record { end = p.end; gathered = gather p.gathered t }

    by : (v : Bool) → goes_in p.end (description_in p.gathered (t ∷ [])) t ≡ v → (length ts ≤ more_of next (ts ++ ys) → more_of next (ts ++ zs) ≡ length ts + more_of (with_all p (t ∷ ts)) zs)
        → more_of p (t ∷ ts ++ zs) ≡ suc (length ts) + more_of (with_all p (t ∷ ts)) zs
    by true e r =
        let a = more_of_yes p t (ts ++ ys) e in
        let b = more_of_yes p t (ts ++ zs) e in
        let c = r (omega (arith, a, le)) in
        omega (arith, b, c)
    by false e r = let a = more_of_no p t (ts ++ ys) e in absurd (omega (arith, a, le))

-- more samples behind do not make those fewer that go in
pub more_with : (p : Planning) (xs ys : List SampleAt) → more_of p xs ≤ more_of p (xs ++ ys)
more_with p [] ys = let none = more_of-nil p in omega (arith, none)
more_with p (x ∷ xs) ys = by (goes_in p.end (description_in p.gathered (x ∷ [])) x) refl (more_with (record { end = p.end; gathered = gather p.gathered x }) xs ys)
  where
    next : Planning
    next = record { end = p.end; gathered = gather p.gathered x }

    by : (v : Bool) → goes_in p.end (description_in p.gathered (x ∷ [])) x ≡ v → more_of next xs ≤ more_of next (xs ++ ys) → more_of p (x ∷ xs) ≤ more_of p (x ∷ xs ++ ys)
    by true e le =
        let a = more_of_yes p x xs e in
        let b = more_of_yes p x (xs ++ ys) e in
        omega (arith, a, b, le)
    by false e le = let a = more_of_no p x xs e in omega (arith, a)

-- no more go in than there are
pub few_more : (p : Planning) (xs : List SampleAt) → more_of p xs ≤ length xs
unfolding more_of
few_more p xs = prefix_len-le-length (goes_in p.end (description_in p.gathered xs)) xs

-- as many are counted as go in
pub counted_fed : (p : Planning) (xs : List SampleAt) → count_of (piece_fed p xs).gathered ≡ count_of p.gathered + more_of p xs
counted_fed p xs =
    let few = few_more p xs in
    let front = length-take (more_of p xs) xs in
    omega (arith, few, front, all_counted p.gathered (take (more_of p xs) xs))

-- where as many go in as were taken, those are left
all_taken : (p q : Planning) (ts ys xs : List SampleAt) → xs ≡ ts ++ ys → q ≡ with_all p ts → more_of p xs ≡ length ts → (q ≡ piece_fed p xs) × (ys ≡ samples_after p xs)
all_taken p q ts ys xs whole is many =
    let front : take (more_of p xs) xs ≡ ts = (λ i. take (many i) (whole i)) ∙ take_at ts ys (length ts) refl in
    let back : drop (more_of p xs) xs ≡ ys = (λ i. drop (many i) (whole i)) ∙ drop_at ts ys (length ts) refl in
    (is ∙ ap (λ l. let r : Planning = record { end = p.end; gathered = gather_all p.gathered l } in r) (sym front), sym back)

-- ---- what was fed with room for so many

module _ (p q : Planning) (room room_after : ℕ) (xs ys : List SampleAt) (piece : q ≡ piece_fed p (take room xs)) (left : take room_after ys ≡ samples_after p (take room xs)) (t : TakesFirst room room_after xs ys) where
  abbrev zs : List SampleAt
  zs = take room_after ys

  shown : take room xs ≡ t.taken ++ zs
  shown = (λ i. take (t.less i) (t.whole i)) ∙ take-append-add t.taken ys room_after

  n_is : more_of p (take room xs) ≡ length t.taken
  n_is =
      let a = ap (λ (l : List SampleAt). length l) left in
      let b = length-drop (more_of p (take room xs)) (take room xs) in
      let c = few_more p (take room xs) in
      let d = ap (λ (l : List SampleAt). length l) shown in
      let e = length-append t.taken zs in
      omega (arith, a, b, c, d, e)

  q_is : q ≡ with_all p t.taken
  q_is = piece ∙ ap (λ l. let r : Planning = record { end = p.end; gathered = gather_all p.gathered l } in r) ((λ i. take (n_is i) (shown i)) ∙ take_at t.taken zs (length t.taken) refl)

  -- those that were taken are counted
  pub fed_counts : count_of q.gathered ≡ count_of p.gathered + length t.taken
  fed_counts = ap (λ (r : Planning). count_of r.gathered) q_is ∙ all_counted p.gathered t.taken

  goes : length t.taken ≤ more_of p (t.taken ++ zs)
  goes = let same = ap (more_of p) shown in omega (arith, same, n_is)

  many : more_of p xs ≡ length t.taken + more_of (with_all p t.taken) ys
  many = ap (more_of p) t.whole ∙ more_behind p t.taken zs ys goes

  none_shown : more_of (with_all p t.taken) zs ≡ 0
  none_shown =
      let same = ap (more_of p) shown in
      let more = more_behind p t.taken zs zs goes in
      omega (arith, same, n_is, more)

  done : more_of (with_all p t.taken) ys ≡ 0 → (q ≡ piece_fed p xs) × (ys ≡ samples_after p xs)
  done z = all_taken p q t.taken ys xs t.whole q_is (omega (arith, many, z))

  -- the next one goes in, so there is no room
  full : (s : SampleAt) (rest : List SampleAt) → ys ≡ s ∷ rest → goes_in (with_all p t.taken).end (description_in (with_all p t.taken).gathered (s ∷ [])) s ≡ true → room < more_of p xs
  full s rest e f = by room_after refl
    where
      by : (n : ℕ) → room_after ≡ n → room < more_of p xs
      by zero r =
          let one = ap (more_of (with_all p t.taken)) e ∙ more_of_yes (with_all p t.taken) s rest f in
          let less = t.less in
          omega (arith, one, less, r, many)
      by (suc n) r =
          let one = ap (more_of (with_all p t.taken)) (λ i. take (r i) (e i)) ∙ more_of_yes (with_all p t.taken) s (take n rest) f in
          absurd (omega (arith, one, none_shown))

  by_next : (s : SampleAt) (rest : List SampleAt) → ys ≡ s ∷ rest → (v : Bool) → goes_in q.end (description_in q.gathered (s ∷ [])) s ≡ v → HasTaken room (stop_of q (Some s)) p q xs ys
  by_next s rest e true g = rw g (full s rest e (ap (λ (r : Planning). goes_in r.end (description_in r.gathered (s ∷ [])) s) (sym q_is) ∙ g))
  by_next s rest e false g =
      let f : goes_in (with_all p t.taken).end (description_in (with_all p t.taken).gathered (s ∷ [])) s ≡ false = ap (λ (r : Planning). goes_in r.end (description_in r.gathered (s ∷ [])) s) (sym q_is) ∙ g in
      let d = done (ap (more_of (with_all p t.taken)) e ∙ more_of_no (with_all p t.taken) s rest f) in
      let long = ap (λ (l : List SampleAt). length l) e in
      rw g (d.0, d.1, omega (arith, long))

  by_left : (l : List SampleAt) → ys ≡ l → HasTaken room (stop_of q (slice_get ys 0)) p q xs ys
  by_left [] e =
      let d = done (ap (more_of (with_all p t.taken)) e ∙ more_of-nil (with_all p t.taken)) in
      subst (λ o. HasTaken room (stop_of q o) p q xs ys) (ap (λ l. slice_get l 0) (sym e)) (d.0, d.1, e)
  by_left (s ∷ rest) e = subst (λ o. HasTaken room (stop_of q o) p q xs ys) (ap (λ l. slice_get l 0) (sym e)) (by_next s rest e (goes_in q.end (description_in q.gathered (s ∷ [])) s) refl)

  -- why no more were taken
  pub fed_stops : HasTaken room (stop_of q (slice_get ys 0)) p q xs ys
  fed_stops = by_left ys refl
