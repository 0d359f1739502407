-- Indexes of samples by their rows.
use Rattle.std.proofs.Common.{◌≡◌, ℕ, zero, suc, ◌+◌, ◌-◌, ◌<◌, ◌≤◌, List, [], ◌∷◌, length, drop, replicate, slice_index, ap, sym, subst, ◌∙◌, arith, inl, inr, length-drop}
use Rattle.std.specs.List.{AllByRecursion}
use Rattle.std.proofs.lemmas.Bool.{cases_lt}
use Rattle.mp4_boxes.proofs.Among.{all_append}
use Rattle.mp4_tables.specs.format.Repeated.{repeated}
use Rattle.mp4_tables.specs.words.Rows.{runs_at}
use Rattle.mp4_tables.specs.words.TablesComing.{coming, IsRunPlace}
use Rattle.mp4_tables.specs.words.Accepted.{IsRunPlaceAt}
use Rattle.mp4_tables.specs.declared.places.RowsAt.{RowsAt}
use Rattle.mp4_tables.specs.declared.places.RunPlace.{RunPlace}
use Rattle.mp4_tables.proofs.RowLists.{runs_length, first_left}
use Rattle.mp4_tables.proofs.RunLists.{coming_start, coming_first}
use Rattle.mp4_tables.proofs.SpotLists.{drop_next}

-- ---- places in rows that repeat

-- before the first value
pub run_first : (payload : List ℕ) (at : RowsAt) (p : RunPlace) → coming (runs_at payload at) p ≡ coming (runs_at payload at) (record { row = 0; left = 0; value = 0 })
    → (p.left ≡ 0 → coming (runs_at payload at) p ≡ []) → p.row ≤ at.count → IsRunPlaceAt (runs_at payload at) p 0
run_first payload at p same settled within =
    let rest = same ∙ coming_start (runs_at payload at) 0 0 in
    record {
      rest = rest;
      settled = λ h. sym rest ∙ settled h;
      within = omega (arith, runs_length payload at);
    }

pub ruleset starting = (run_first)

-- a value is in hand where one is to come
pub run_left : (runs : List (ℕ × ℕ)) (p : RunPlace) (values : List ℕ) (k : ℕ) → IsRunPlace runs p (drop k values) → k < length values → 0 < p.left
run_left runs p values k at h = elim (cases_lt 0 p.left) [
  | inl some ↦ some
  | inr none ↦ absurd (some_left values k h (at.settled (omega arith)))
]
  where
    some_left : (xs : List ℕ) (k : ℕ) → k < length xs → drop k xs ≡ [] → ⊥
    some_left xs k h e = let n = length-drop k xs in let z = ap (λ (ys : List ℕ). length ys) e in omega arith

first_coming : (runs : List (ℕ × ℕ)) (p : RunPlace) → 0 < p.left → (rest : List ℕ) × (coming runs p ≡ p.value ∷ rest)
first_coming runs p h = (coming runs (record { row = p.row; left = p.left - 1; value = p.value }), coming_first runs p.row p.left p.value h)

-- it is the next one
pub run_value : (runs : List (ℕ × ℕ)) (p : RunPlace) (values : List ℕ) (k : ℕ) → IsRunPlace runs p (drop k values) → 0 < p.left → slice_index values k ≡ p.value
run_value runs p values k at h =
    let f = first_coming runs p h in
    first_left values f.0 k p.value (sym at.rest ∙ f.1)

-- and the next place lies behind it
pub run_passed : (payload : List ℕ) (at : RowsAt) (p q : RunPlace) (values : List ℕ) (k : ℕ) → IsRunPlace (runs_at payload at) p (drop k values)
    → coming (runs_at payload at) p ≡ p.value ∷ coming (runs_at payload at) q → (q.left ≡ 0 → coming (runs_at payload at) q ≡ []) → q.row ≤ at.count → IsRunPlace (runs_at payload at) q (drop (k + 1) values)
run_passed payload at p q values k was next settled within =
    let rest : drop (k + 1) values ≡ coming (runs_at payload at) q = drop_next values (coming (runs_at payload at) q) k p.value (sym was.rest ∙ next) in
    record {
      rest = sym rest;
      settled = λ h. rest ∙ settled h;
      within = omega (arith, runs_length payload at);
    }

-- ---- what holds of each row's value holds of each value

all_same : (P : ℕ → Type 0) (n value : ℕ) → P value → AllByRecursion P (replicate n value)
all_same P zero value h = tt
all_same P (suc n) value h = (h, all_same P n value h)

pub all_repeated : (P : ℕ → Type 0) (runs : List (ℕ × ℕ)) → AllByRecursion (λ (run : ℕ × ℕ). P run.1) runs → AllByRecursion P (repeated runs)
all_repeated P [] h = tt
all_repeated P (run ∷ runs) h = all_append P (replicate run.0 run.1) (repeated runs) (all_same P run.0 run.1 h.0) (all_repeated P runs h.1)

all_left : (P : ℕ → Type 0) (xs ys : List ℕ) (k x : ℕ) → AllByRecursion P xs → drop k xs ≡ x ∷ ys → P x
all_left P [] ys zero x h e = cc
all_left P [] ys (suc k) x h e = cc
all_left P (y ∷ xs) ys zero x h e = let f : y ≡ x = cc in subst P f h.0
all_left P (y ∷ xs) ys (suc k) x h e = all_left P xs ys k x h.1 e

pub value_has : (P : ℕ → Type 0) (runs : List (ℕ × ℕ)) (p : RunPlace) (k : ℕ) → AllByRecursion (λ (run : ℕ × ℕ). P run.1) runs → IsRunPlaceAt runs p k → 0 < p.left → P p.value
value_has P runs p k h at some =
    let f = first_coming runs p some in
    all_left P (repeated runs) f.0 k p.value (all_repeated P runs h) (sym at.rest ∙ f.1)
