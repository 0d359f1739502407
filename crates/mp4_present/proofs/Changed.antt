-- Entries of a list that are taken, or changed, one after the other.
use Rattle.std.proofs.Common.{◌≡◌, ℕ, zero, suc, ◌+◌, ◌<◌, ◌≤◌, List, [], ◌∷◌, ◌++◌, length, take, map, Some, refl, sym, ap, subst, ◌∙◌, arith, slice_set}
use Rattle.std.specs.Prelude.{⊤, slice_get, slice_index_or}

pub there_is : {A : Type 0} (xs : List A) (k : ℕ) (d x : A) → k < length xs → x ≡ slice_index_or xs k d → slice_get xs k ≡ Some x
there_is [] k d x lt e = absurd (omega (arith, lt))
there_is (y ∷ ys) zero d x lt e = ap (λ z. Some z) (sym e)
there_is (y ∷ ys) (suc k) d x lt e = there_is ys k d x (omega (arith, lt)) e

pub next_taken : {A : Type 0} (xs : List A) (k : ℕ) (x : A) → slice_get xs k ≡ Some x → take (suc k) xs ≡ take k xs ++ x ∷ []
next_taken [] k x e = absurd cc
next_taken (y ∷ ys) zero x e = let same : y ≡ x = cc in ap (λ z. z ∷ []) same
next_taken (y ∷ ys) (suc k) x e = ap (λ zs. y ∷ zs) (next_taken ys k x e)

-- those before a place are what a function of their places makes of them, and the others are as
-- they were
abbrev pub ChangedTo : {A B : Type 0} → (A → B) → (ℕ → B → B) → ℕ → List A → List A → ℕ → Type 0
ChangedTo seen f n [] [] k = ⊤
ChangedTo seen f n (x ∷ old) (y ∷ now) zero = y ∷ now ≡ x ∷ old
ChangedTo seen f n (x ∷ old) (y ∷ now) (suc k) = (seen y ≡ f n (seen x)) × ChangedTo seen f (suc n) old now k
ChangedTo seen f n _ _ k = ⊥

module _ {A B : Type 0} (seen : A → B) (f : ℕ → B → B) where
  pub changed_none : (n : ℕ) (old now : List A) → now ≡ old → ChangedTo seen f n old now 0
  changed_none n [] [] e = tt
  changed_none n [] (y ∷ now) e = absurd cc
  changed_none n (x ∷ old) [] e = absurd cc
  changed_none n (x ∷ old) (y ∷ now) e = e

  -- the next one is as it was
  pub unchanged_next : (n : ℕ) (old now : List A) (k : ℕ) (x : A) → ChangedTo seen f n old now k → slice_get now k ≡ Some x → slice_get old k ≡ Some x
  unchanged_next n [] [] k x h e = e
  unchanged_next n [] (y ∷ now) k x h e = absurd h
  unchanged_next n (z ∷ old) [] k x h e = absurd h
  unchanged_next n (z ∷ old) (y ∷ now) zero x h e = ap (λ zs. slice_get zs 0) (sym h) ∙ e
  unchanged_next n (z ∷ old) (y ∷ now) (suc k) x h e = unchanged_next (suc n) old now k x h.1 e

  one_changed : (n : ℕ) (old now : List A) (k : ℕ) (was is : A) → ChangedTo seen f n old now k → slice_get now k ≡ Some was → seen is ≡ f (k + n) (seen was) → ChangedTo seen f n old (slice_set now k is) (suc k)
  one_changed n [] [] k was is h at e = absurd cc
  one_changed n [] (y ∷ now) k was is h at e = absurd h
  one_changed n (x ∷ old) [] k was is h at e = absurd h
  one_changed n (x ∷ old) (y ∷ now) zero was is h at e =
      let first : y ≡ x = cc in
      let same : y ≡ was = cc in
      let rest : now ≡ old = cc in
      let place : 0 + n ≡ n = omega arith in
      (e ∙ (λ i. f (place i) (seen ((sym same ∙ first) i))), changed_none (suc n) old now rest)
  one_changed n (x ∷ old) (y ∷ now) (suc k) was is h at e =
      let place : suc k + n ≡ k + suc n = omega arith in
      (h.0, one_changed (suc n) old now k was is h.1 at (e ∙ ap (λ m. f m (seen was)) place))

  pub changed_one : (n : ℕ) (old now : List A) (k : ℕ) (was is : A) → ChangedTo seen f n old now k → slice_get now k ≡ Some was → seen is ≡ f (k + n) (seen was) → ChangedTo seen f n old (slice_set now k is) (k + 1)
  changed_one n old now k was is h at e = let m : suc k ≡ k + 1 = omega arith in subst (λ i. ChangedTo seen f n old (slice_set now k is) i) m (one_changed n old now k was is h at e)

  -- the lists that are all changed
  pub changed_all : (all : ℕ → List B → List B) → ((n : ℕ) → all n [] ≡ []) → ((n : ℕ) (y : B) (ys : List B) → all n (y ∷ ys) ≡ f n y ∷ all (suc n) ys)
      → (n : ℕ) (old now : List A) (k : ℕ) → ChangedTo seen f n old now k → length now ≤ k → map seen now ≡ all n (map seen old)
  changed_all all none more n [] [] k h le = sym (none n)
  changed_all all none more n [] (y ∷ now) k h le = absurd h
  changed_all all none more n (x ∷ old) [] k h le = absurd h
  changed_all all none more n (x ∷ old) (y ∷ now) zero h le = absurd (omega (arith, le))
  changed_all all none more n (x ∷ old) (y ∷ now) (suc k) h le =
      (λ i. h.0 i ∷ changed_all all none more (suc n) old now k h.1 (omega (arith, le)) i) ∙ sym (more n (seen x) (map seen old))

-- the same of entries whose places don't count
pub all_changed : {A B : Type 0} (seen : A → B) (f : B → B) (old now : List A) (k : ℕ) → ChangedTo seen (λ n. f) 0 old now k → length now ≤ k → map seen now ≡ map f (map seen old)
all_changed seen f = changed_all seen (λ n. f) (λ n. map f) (λ n. refl) (λ n y ys. refl) 0
