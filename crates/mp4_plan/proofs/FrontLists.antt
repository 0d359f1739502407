-- Lists up to the first member that passes a test, and fragments as such fronts.
use Rattle.std.proofs.Common.{◌≡◌, ℕ, suc, ◌+◌, ◌<◌, ◌≤◌, ◌==◌, nat_le, Bool, true, false, cond, ltb, List, [], ◌∷◌, ◌++◌, length, refl, sym, ap, ◌∙◌, arith, ne_eqb, eq-eqb, subst}
use Rattle.std.specs.Prelude.{nat_lt}
use Rattle.std.specs.List.{AllByRecursion}
use Rattle.std.proofs.lemmas.Bool.{lt-ltb, le-ltb, ltb-true, ltb-false, leb-false, lt-leb}
use Rattle.mp4_plan.specs.format.Pieces.{last_place}
use Rattle.mp4_plan.specs.format.PieceLaws.{NeverFalls}
use Rattle.mp4_plan.specs.words.PiecesComing.{front, rest}
use Rattle.mp4_plan.proofs.Filters.{numbered}
use Rattle.mp4_plan.proofs.Fragments.{last_place_within}
use Rattle.mp4_boxes.proofs.Each.{each_weaker}

-- ---- tests that agree up to the first that passes

pub data Agree {A : Type 0} (t u : A → Bool) : List A → Type 0 where
  none : Agree t u []
  ends : {x : A} {xs : List A} → t x ≡ true → u x ≡ true → Agree t u (x ∷ xs)
  goes : {x : A} {xs : List A} → t x ≡ false → u x ≡ false → Agree t u xs → Agree t u (x ∷ xs)

pub front_same : {A : Type 0} (t u : A → Bool) (xs : List A) → Agree t u xs → front t xs ≡ front u xs
front_same t u [] none = refl
front_same t u (x ∷ xs) (ends p q) = rw (p, q) refl
front_same t u (x ∷ xs) (goes p q h) = let r = front_same t u xs h in rw (p, q) (ap (λ l. x ∷ l) r)

pub rest_same : {A : Type 0} (t u : A → Bool) (xs : List A) → Agree t u xs → rest t xs ≡ rest u xs
rest_same t u [] none = refl
rest_same t u (x ∷ xs) (ends p q) = rw (p, q) refl
rest_same t u (x ∷ xs) (goes p q h) = let r = rest_same t u xs h in rw (p, q) r

-- tests that say the same of everything
pub agree_all : {A : Type 0} (t u : A → Bool) → ((x : A) → t x ≡ u x) → (xs : List A) → Agree t u xs
agree_all t u f [] = none
agree_all t u f (x ∷ xs) = by (agree_all t u f xs) (t x) refl
  where
    by : Agree t u xs → (v : Bool) → t x ≡ v → Agree t u (x ∷ xs)
    by h true e = ends e (sym (f x) ∙ e)
    by h false e = goes e (sym (f x) ∙ e) h

-- ---- numbers that never fall

module _ {A : Type 0} (f : A → ℕ) (k : ℕ) where
  none_here : (xs : List A) (low : ℕ) → k < low → NeverFalls f low xs → numbered f xs k ≡ []
  none_here [] low lt h = refl
  none_here (x ∷ xs) low lt h =
      let le = h.0 in
      let t : (f x == k) ≡ false = ne_eqb (f x) k (λ e. omega (arith, lt, le, e)) in
      rw t (none_here xs (f x) (omega (arith, lt, le)) h.1)

  -- those with the number are those before the first above it
  pub numbered_front : (xs : List A) → NeverFalls f k xs → numbered f xs k ≡ front (λ x. nat_lt k (f x)) xs
  numbered_front [] h = refl
  numbered_front (x ∷ xs) h = by (λ e. numbered_front xs (subst (λ n. NeverFalls f n xs) e h.1)) (ltb k (f x)) refl
    where
      by : (f x ≡ k → numbered f xs k ≡ front (λ y. nat_lt k (f y)) xs) → (v : Bool) → ltb k (f x) ≡ v → numbered f (x ∷ xs) k ≡ cond v [] (x ∷ front (λ y. nat_lt k (f y)) xs)
      by r true e =
          let lt = ltb-true k (f x) e in
          let t : (f x == k) ≡ false = ne_eqb (f x) k (λ s. omega (arith, lt, s)) in
          rw t (none_here xs (f x) lt h.1)
      by r false e =
          let le = ltb-false k (f x) e in
          let ge = h.0 in
          let same : f x ≡ k = omega (arith, le, ge) in
          let t : (f x == k) ≡ true = eq-eqb (f x) k same in
          rw t (ap (λ l. x ∷ l) (r same))

  -- from that one on they are above it
  pub rest_above : (xs : List A) → NeverFalls f k xs → NeverFalls f (k + 1) (rest (λ x. nat_lt k (f x)) xs)
  rest_above [] h = tt
  rest_above (x ∷ xs) h = by (λ e. rest_above xs (subst (λ n. NeverFalls f n xs) e h.1)) (ltb k (f x)) refl
    where
      by : (f x ≡ k → NeverFalls f (k + 1) (rest (λ y. nat_lt k (f y)) xs)) → (v : Bool) → ltb k (f x) ≡ v → NeverFalls f (k + 1) (cond v (x ∷ xs) (rest (λ y. nat_lt k (f y)) xs))
      by r true e = let lt = ltb-true k (f x) e in (omega (arith, lt), h.1)
      by r false e = let le = ltb-false k (f x) e in let ge = h.0 in r (omega (arith, le, ge))

  -- and those of a larger number are there
  pub numbered_rest : (xs : List A) (j : ℕ) → k < j → numbered f xs j ≡ numbered f (rest (λ x. nat_lt k (f x)) xs) j
  numbered_rest [] j lt = refl
  numbered_rest (x ∷ xs) j lt = by (numbered_rest xs j lt) (ltb k (f x)) refl
    where
      by : numbered f xs j ≡ numbered f (rest (λ y. nat_lt k (f y)) xs) j → (v : Bool) → ltb k (f x) ≡ v → numbered f (x ∷ xs) j ≡ numbered f (cond v (x ∷ xs) (rest (λ y. nat_lt k (f y)) xs)) j
      by r true e = refl
      by r false e =
          let le = ltb-false k (f x) e in
          let t : (f x == j) ≡ false = ne_eqb (f x) j (λ s. omega (arith, le, lt, s)) in
          rw t r

-- ---- the last place behind some

place_append : {A : Type 0} (test : A → Bool) (done more : List A) (i found : ℕ) → last_place test i found (done ++ more) ≡ last_place test (i + length done) (last_place test i found done) more
place_append test [] more i found = ap (λ n. last_place test n found more) (let e : i ≡ i + 0 = omega arith in e)
place_append test (x ∷ done) more i found =
    place_append test done more (i + 1) (cond (test x) i found)
    ∙ ap (λ n. last_place test n (last_place test (i + 1) (cond (test x) i found) done) more) (let e : (i + 1) + length done ≡ i + suc (length done) = omega arith in e)

place_none : {A : Type 0} (test : A → Bool) (more : List A) (i found : ℕ) → AllByRecursion (λ x. test x ≡ false) more → last_place test i found more ≡ found
place_none test [] i found h = refl
place_none test (x ∷ more) i found h = let t = h.0 in rw t (place_none test more (i + 1) found h.1)

place_from : {A : Type 0} (test : A → Bool) (more : List A) (i found m : ℕ) → m ≤ i → m ≤ found → m ≤ last_place test i found more
place_from test [] i found m a b = b
place_from test (x ∷ more) i found m a b = place_from test more (i + 1) (cond (test x) i found) m (omega (arith, a)) (by (test x))
  where
    by : (v : Bool) → m ≤ cond v i found
    by true = a
    by false = b

-- the first of some passes
abbrev pub first_passes : {A : Type 0} → (A → Bool) → List A → Bool
first_passes test [] = false
first_passes test (x ∷ xs) = test x

-- where the first doesn't, none does
abbrev pub FirstIsLeast : {A : Type 0} → (A → Bool) → List A → Type 0
FirstIsLeast test [] = Unit {0}
FirstIsLeast test (x ∷ xs) = test x ≡ false → AllByRecursion (λ y. test y ≡ false) xs

-- The last place is behind the first ones exactly if the next one passes.
pub place_behind : {A : Type 0} (test : A → Bool) (done more : List A) (k : ℕ) → length done ≡ k + 1 → FirstIsLeast test more → nat_lt k (last_place test 0 0 (done ++ more)) ≡ first_passes test more
place_behind {A = A} test done more k e h = ap (nat_lt k) (place_append test done more 0 0) ∙ by more h
  where
    found : ℕ
    found = last_place test 0 0 done

    small : found < k + 1
    small = last_place_within test done 0 0 (k + 1) (omega arith) (omega (arith, e))

    none_so_far : ltb k found ≡ false
    none_so_far = le-ltb k found (let s = small in omega (arith, s))

    by_first : (x : A) (xs : List A) (v : Bool) → test x ≡ v → (test x ≡ false → AllByRecursion (λ y. test y ≡ false) xs) → nat_lt k (last_place test (0 + length done) found (x ∷ xs)) ≡ v
    by_first x xs true t h =
        let ge = place_from test xs (0 + length done + 1) (0 + length done) (k + 1) (omega (arith, e)) (omega (arith, e)) in
        rw t (lt-ltb k (last_place test (0 + length done + 1) (0 + length done) xs) (omega (arith, ge)))
    by_first x xs false t h = rw t (ap (ltb k) (place_none test xs (0 + length done + 1) found (h t)) ∙ none_so_far)

    by : (more : List A) → FirstIsLeast test more → nat_lt k (last_place test (0 + length done) found more) ≡ first_passes test more
    by [] h = none_so_far
    by (x ∷ xs) h = by_first x xs (test x) refl h

-- a number that no later one is below
pub least_first : {A : Type 0} (w : A → ℕ) (v : ℕ) (x : A) (xs : List A) → AllByRecursion (λ y. w x ≤ w y) xs → nat_le (w x) v ≡ false → AllByRecursion (λ y. nat_le (w y) v ≡ false) xs
least_first w v x xs h e =
    let lt : v < w x = leb-false (w x) v e in
    each_weaker (λ y. w x ≤ w y) (λ y. nat_le (w y) v ≡ false) (λ y le. lt-leb (w y) v (omega (arith, lt, le))) xs h
