-- The longest runs of equal indexes, found one index after the other.
use Rattle.std.proofs.Common.{◌≡◌, ℕ, suc, zero, ◌+◌, ◌<◌, ◌≤◌, length, drop, map, get_or, append_assoc, ◌==◌, Bool, true, false, List, [], ◌∷◌, ◌++◌, refl, sym, ap, ◌∙◌, rules, arith}
use Rattle.std.specs.Prelude.{if◌then◌else◌, flat_map}
use Rattle.std.proofs.lemmas.Grind.{flat_map-append}
use Rattle.std.proofs.lemmas.List.{drop_more, drop_all}
use Rattle.mp4_plan.specs.declared.moof_rows.IndexRun.{IndexRun}
use Rattle.mp4_plan.specs.declared.noted_rows.Row.{Row}
use Rattle.std.proofs.lemmas.Bool.{eq-eqb}
use Rattle.mp4_plan.specs.format.Normal.{longest_runs, put_run}
use Rattle.mp4_plan.specs.words.Spelling.{resumed, runs_left}

-- a run in front of others, in the first of them if that has its index
abbrev pub add_run : ℕ → ℕ → List (ℕ × ℕ) → List (ℕ × ℕ)
add_run count index [] = (count, index) ∷ []
add_run count index (row ∷ rows) = if◌then◌else◌ (index == row.1) ((count + row.0, index) ∷ rows) ((count, index) ∷ row ∷ rows)

one_run : (index : ℕ) (rows : List (ℕ × ℕ)) → add_run 1 index rows ≡ put_run index rows
one_run index [] = refl
one_run index (row ∷ rows) = by_value (index == row.1) refl
  where
    by_value : (same : Bool) → (index == row.1) ≡ same → if◌then◌else◌ same ((1 + row.0, index) ∷ rows) ((1, index) ∷ row ∷ rows) ≡ if◌then◌else◌ same ((suc row.0, index) ∷ rows) ((1, index) ∷ row ∷ rows)
    by_value true e = let n : 1 + row.0 ≡ suc row.0 = omega arith in ap (λ k. (k, index) ∷ rows) n
    by_value false e = refl

-- one index more in front of the run of the same index, or of another
same_run : (count index : ℕ) (rows : List (ℕ × ℕ)) → add_run count index (put_run index rows) ≡ add_run (suc count) index rows
same_run count index [] = let t : (index == index) ≡ true = eq-eqb index index refl in let n : count + 1 ≡ suc count = omega arith in rw t (ap (λ k. (k, index) ∷ []) n)
same_run count index (row ∷ rows) = by_value (index == row.1) refl
  where
    t : (index == index) ≡ true
    t = eq-eqb index index refl

    by_value : (same : Bool) → (index == row.1) ≡ same → add_run count index (if◌then◌else◌ same ((suc row.0, index) ∷ rows) ((1, index) ∷ row ∷ rows)) ≡ if◌then◌else◌ same ((suc count + row.0, index) ∷ rows) ((suc count, index) ∷ row ∷ rows)
    by_value true e = let n : count + suc row.0 ≡ suc count + row.0 = omega arith in rw t (ap (λ k. (k, index) ∷ rows) n)
    by_value false e = let n : count + 1 ≡ suc count = omega arith in rw t (ap (λ k. (k, index) ∷ row ∷ rows) n)

other_run : (count index v : ℕ) (rows : List (ℕ × ℕ)) → (index == v) ≡ false → add_run count index (put_run v rows) ≡ (count, index) ∷ put_run v rows
other_run count index v [] e = rw e refl
other_run count index v (row ∷ rows) e = by_value (v == row.1) refl
  where
    by_value : (same : Bool) → (v == row.1) ≡ same → add_run count index (if◌then◌else◌ same ((suc row.0, v) ∷ rows) ((1, v) ∷ row ∷ rows)) ≡ (count, index) ∷ if◌then◌else◌ same ((suc row.0, v) ∷ rows) ((1, v) ∷ row ∷ rows)
    by_value true f = rw e refl
    by_value false f = rw e refl

resumed_by : (count index v : ℕ) (vs : List ℕ) → ((c i : ℕ) → resumed c i vs ≡ add_run c i (longest_runs vs)) → (same : Bool) → (index == v) ≡ same
    → if◌then◌else◌ same (resumed (suc count) v vs) ((count, index) ∷ resumed 1 v vs) ≡ add_run count index (put_run v (longest_runs vs))
resumed_by count index v vs rest true e =
    let is : v ≡ index = search rules in
    rest (suc count) v ∙ sym (same_run count v (longest_runs vs)) ∙ ap (λ i. add_run count i (put_run v (longest_runs vs))) is
resumed_by count index v vs rest false e = ap (λ rows. (count, index) ∷ rows) (rest 1 v ∙ one_run v (longest_runs vs)) ∙ sym (other_run count index v (longest_runs vs) e)

pub resumed_is : (vs : List ℕ) (count index : ℕ) → resumed count index vs ≡ add_run count index (longest_runs vs)
resumed_is [] count index = refl
resumed_is (v ∷ vs) count index = resumed_by count index v vs (resumed_is vs) (index == v) refl

-- from the first index on
pub resumed_first : (v : ℕ) (vs : List ℕ) → resumed 1 v vs ≡ longest_runs (v ∷ vs)
resumed_first v vs = resumed_is vs 1 v ∙ one_run v (longest_runs vs)

-- ---- written one by one

-- the first index of all
pub left_first : (index v : ℕ) (vs : List ℕ) → runs_left 0 index (v ∷ vs) ≡ runs_left 1 v vs
left_first index v vs = sym (resumed_first v vs)

-- another index
pub left_other : (count index v : ℕ) (vs : List ℕ) → (index == v) ≡ false → runs_left (suc count) index (v ∷ vs) ≡ (suc count, index) ∷ runs_left 1 v vs
left_other count index v vs e = rw e refl

-- an index that is not that of the run in hand
pub left_new : (count index v : ℕ) (vs : List ℕ) → (0 < count → (index == v) ≡ false) → runs_left count index (v ∷ vs) ≡ runs_left count index [] ++ runs_left 1 v vs
left_new zero index v vs e = left_first index v vs
left_new (suc count) index v vs e = left_other count index v vs (e (omega arith))

-- one row more of many
pub written_more : (f : ℕ × ℕ → List ℕ) (done more : List (ℕ × ℕ)) (run next : IndexRun) (index : Row → ℕ) (rows : List Row) (k : ℕ) (d : Row) (v : ℕ) → k < length rows → v ≡ index (get_or rows k d)
    → done ++ runs_left run.count run.index (map index (drop k rows)) ≡ longest_runs (map index rows)
    → runs_left run.count run.index (v ∷ map index (drop (k + 1) rows)) ≡ more ++ runs_left next.count next.index (map index (drop (k + 1) rows))
    → (flat_map f (done ++ more) ≡ flat_map f done ++ flat_map f more) × ((done ++ more) ++ runs_left next.count next.index (map index (drop (k + 1) rows)) ≡ longest_runs (map index rows))
written_more f done more run next index rows k d v lt is all step =
    let front : map index (drop k rows) ≡ v ∷ map index (drop (k + 1) rows) = ap (map index) (drop_more rows k d lt) ∙ ap (λ x. x ∷ map index (drop (k + 1) rows)) (sym is) in (
      flat_map-append f done more,
      append_assoc done more (runs_left next.count next.index (map index (drop (k + 1) rows)))
          ∙ ap (λ rest. done ++ rest) (sym step ∙ ap (λ values. runs_left run.count run.index values) (sym front)) ∙ all,
    )

-- behind the last row
pub written_all : (f : ℕ × ℕ → List ℕ) (done : List (ℕ × ℕ)) (run : IndexRun) (index : Row → ℕ) (rows : List Row) (k : ℕ) → length rows ≤ k
    → done ++ runs_left run.count run.index (map index (drop k rows)) ≡ longest_runs (map index rows)
    → flat_map f (longest_runs (map index rows)) ≡ flat_map f done ++ flat_map f (runs_left run.count run.index [])
written_all f done run index rows k le all =
    let none : drop k rows ≡ [] = drop_all k rows le in
    ap (flat_map f) (sym all ∙ ap (λ rest. done ++ runs_left run.count run.index (map index rest)) none) ∙ flat_map-append f done (runs_left run.count run.index [])
