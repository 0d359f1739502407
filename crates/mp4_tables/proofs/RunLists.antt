-- Values that rows repeat, and what is left of them.
use Rattle.std.proofs.Common.{◌≡◌, ℕ, zero, suc, ◌+◌, ◌-◌, ◌<◌, ◌≤◌, List, [], ◌∷◌, ◌++◌, drop, replicate, refl, ap, ◌∙◌, arith}
use Rattle.std.specs.Prelude.{nat_lt, ◌&&◌, true, false}
use Rattle.mp4_tables.specs.format.Repeated.{repeated, total}
use Rattle.mp4_tables.specs.words.Rows.{runs_at}
use Rattle.mp4_tables.specs.words.TablesComing.{coming, all_below}
use Rattle.mp4_tables.specs.declared.places.RowsAt.{RowsAt}
use Rattle.mp4_tables.proofs.RowLists.{runs_all}
use Rattle.mp4_tables.proofs.ChunkLists.{no_lt}
use Rattle.mp4_boxes.proofs.Plain.{nat_lt_yes}

-- a place with nothing left takes up the next row
pub coming_more : (runs : List (ℕ × ℕ)) (k value : ℕ) (count next : ℕ) → drop k runs ≡ (count, next) ∷ drop (k + 1) runs
    → coming runs (record { row = k; left = 0; value = value }) ≡ coming runs (record { row = k + 1; left = count; value = next })
unfolding coming
coming_more runs k value count next e = ap repeated e

pub coming_all : (payload : List ℕ) (at : RowsAt) (k value : ℕ) → at.count ≤ k → coming (runs_at payload at) (record { row = k; left = 0; value = value }) ≡ []
unfolding coming
coming_all payload at k value h = ap repeated (runs_all payload at k h)

replicate_first : (n value : ℕ) → 0 < n → replicate n value ≡ value ∷ replicate (n - 1) value
replicate_first zero value h = absurd (omega arith)
replicate_first (suc n) value h = let e : n ≡ suc n - 1 = omega arith in ap (λ m. value ∷ replicate m value) e

pub coming_first : (runs : List (ℕ × ℕ)) (k n value : ℕ) → 0 < n → coming runs (record { row = k; left = n; value = value }) ≡ value ∷ coming runs (record { row = k; left = n - 1; value = value })
unfolding coming
coming_first runs k n value h = ap (λ xs. xs ++ repeated (drop k runs)) (replicate_first n value h)

pub coming_start : (runs : List (ℕ × ℕ)) (n value : ℕ) → coming runs (record { row = 0; left = n; value = value }) ≡ replicate n value ++ repeated runs
unfolding coming
coming_start runs n value = refl

pub ruleset settling = (coming_more, coming_all, coming_first)

-- the counts from row k on
pub total_more : (runs : List (ℕ × ℕ)) (k count next : ℕ) → drop k runs ≡ (count, next) ∷ drop (k + 1) runs → total (drop k runs) ≡ count + total (drop (k + 1) runs)
total_more runs k count next e = ap total e

pub total_all : (payload : List ℕ) (at : RowsAt) (k : ℕ) → at.count ≤ k → total (drop k (runs_at payload at)) ≡ 0
total_all payload at k h = ap total (runs_all payload at k h)

pub ruleset counting = (total_more, total_all)

-- all values are below a bound if the next one and the others are
below_more : (runs : List (ℕ × ℕ)) (bound k count value : ℕ) → drop k runs ≡ (count, value) ∷ drop (k + 1) runs
    → all_below bound (drop k runs) ≡ (nat_lt value bound && all_below bound (drop (k + 1) runs))
below_more runs bound k count value e = ap (all_below bound) e

pub below_yes : (runs : List (ℕ × ℕ)) (bound k count value : ℕ) → drop k runs ≡ (count, value) ∷ drop (k + 1) runs → value < bound
    → all_below bound (drop k runs) ≡ all_below bound (drop (k + 1) runs)
below_yes runs bound k count value e h = below_more runs bound k count value e ∙ ap (λ b. b && all_below bound (drop (k + 1) runs)) (nat_lt_yes value bound h)

pub below_no : (runs : List (ℕ × ℕ)) (bound k count value : ℕ) → drop k runs ≡ (count, value) ∷ drop (k + 1) runs → bound ≤ value
    → all_below bound (drop k runs) ≡ false
below_no runs bound k count value e h = below_more runs bound k count value e ∙ ap (λ b. b && all_below bound (drop (k + 1) runs)) (no_lt value bound h)

pub below_all : (payload : List ℕ) (at : RowsAt) (bound k : ℕ) → at.count ≤ k → all_below bound (drop k (runs_at payload at)) ≡ true
below_all payload at bound k h = ap (all_below bound) (runs_all payload at k h)
