-- Many values of rows that repeat, passed row by row.
use Rattle.std.proofs.Common.{◌≡◌, ℕ, zero, suc, ◌+◌, ◌-◌, ◌*◌, ◌<◌, ◌≤◌, List, [], ◌∷◌, ◌++◌, length, take, drop, replicate, get_or, refl, ap, sym, ◌∙◌, arith}
use Rattle.std.proofs.lemmas.List.{drop-drop, drop_all, drop_more}
use Rattle.mp4_boxes.specs.format.Bytes.{sum_of}
use Rattle.mp4_tables.specs.format.Repeated.{repeated}
use Rattle.mp4_tables.specs.words.Rows.{runs_at}
use Rattle.mp4_tables.specs.words.TablesComing.{coming, IsRunPlace}
use Rattle.mp4_tables.specs.declared.places.RowsAt.{RowsAt}
use Rattle.mp4_tables.specs.declared.places.RunPlace.{RunPlace}
use Rattle.mp4_tables.proofs.RowLists.{runs_length}
use Rattle.mp4_tables.proofs.RunLists.{coming_more, coming_all, coming_first}

-- the sum of the first values
abbrev pub sum_first : ℕ → List ℕ → ℕ
sum_first n xs = sum_of (λ (x : ℕ). x) (take n xs)

-- ---- equal values at the front of a list

-- passing all of them, and more
drop_same : (n value m : ℕ) (xs : List ℕ) → n ≤ m → drop m (replicate n value ++ xs) ≡ drop (m - n) xs
drop_same zero value m xs h = let e : m ≡ m - 0 = omega arith in ap (λ k. drop k xs) e
drop_same (suc n) value zero xs h = absurd (omega arith)
drop_same (suc n) value (suc m) xs h = let e : m - n ≡ suc m - suc n = omega arith in drop_same n value m xs (omega arith) ∙ ap (λ k. drop k xs) e

sum_same : (n value m : ℕ) (xs : List ℕ) → n ≤ m → sum_first m (replicate n value ++ xs) ≡ n * value + sum_first (m - n) xs
sum_same zero value m xs h = let e : m ≡ m - 0 = omega arith in let s = ap (λ k. sum_first k xs) e in omega (arith, s)
sum_same (suc n) value zero xs h = absurd (omega arith)
sum_same (suc n) value (suc m) xs h =
    let e : m - n ≡ suc m - suc n = omega arith in
    let s = sum_same n value m xs (omega arith) ∙ ap (λ k. n * value + sum_first k xs) e in
    omega (arith, s)

-- passing some of them
drop_some : (n value m : ℕ) (xs : List ℕ) → m ≤ n → drop m (replicate n value ++ xs) ≡ replicate (n - m) value ++ xs
drop_some n value zero xs h = let e : n ≡ n - 0 = omega arith in ap (λ k. replicate k value ++ xs) e
drop_some zero value (suc m) xs h = absurd (omega arith)
drop_some (suc n) value (suc m) xs h = let e : n - m ≡ suc n - suc m = omega arith in drop_some n value m xs (omega arith) ∙ ap (λ k. replicate k value ++ xs) e

sum_some : (n value m : ℕ) (xs : List ℕ) → m ≤ n → sum_first m (replicate n value ++ xs) ≡ m * value
sum_some n value zero xs h = omega arith
sum_some zero value (suc m) xs h = absurd (omega arith)
sum_some (suc n) value (suc m) xs h = let s = sum_some n value m xs (omega arith) in omega (arith, s)

length_same : (n value : ℕ) (xs : List ℕ) → length (replicate n value ++ xs) ≡ n + length xs
length_same zero value xs = omega arith
length_same (suc n) value xs = let s = length_same n value xs in omega (arith, s)

-- ---- places in rows

-- what is left of the row in hand, and the rows behind it
row_rest : (runs : List (ℕ × ℕ)) (p : RunPlace) → coming runs p ≡ replicate p.left p.value ++ coming runs (record { row = p.row; left = 0; value = p.value })
unfolding coming
row_rest runs p = refl

-- behind the last row there is only what is left of it
last_rest : (payload : List ℕ) (at : RowsAt) (p : RunPlace) → at.count ≤ p.row → coming (runs_at payload at) p ≡ replicate p.left p.value ++ []
last_rest payload at p h = row_rest (runs_at payload at) p ∙ ap (λ xs. replicate p.left p.value ++ xs) (coming_all payload at p.row p.value h)

-- what is left of the row in hand, and then the next row
next_rest : (runs : List (ℕ × ℕ)) (p : RunPlace) (count value : ℕ) → drop p.row runs ≡ (count, value) ∷ drop (p.row + 1) runs
    → coming runs p ≡ replicate p.left p.value ++ coming runs (record { row = p.row + 1; left = count; value = value })
next_rest runs p count value e = row_rest runs p ∙ ap (λ xs. replicate p.left p.value ++ xs) (coming_more runs p.row p.value count value e)

-- the row in hand is passed whole
pub row_passed : (runs : List (ℕ × ℕ)) (p : RunPlace) (count value m : ℕ) → drop p.row runs ≡ (count, value) ∷ drop (p.row + 1) runs → p.left ≤ m
    → drop m (coming runs p) ≡ drop (m - p.left) (coming runs (record { row = p.row + 1; left = count; value = value }))
row_passed runs p count value m e h = ap (drop m) (next_rest runs p count value e) ∙ drop_same p.left p.value m _ h

pub row_sum : (runs : List (ℕ × ℕ)) (p : RunPlace) (count value m : ℕ) → drop p.row runs ≡ (count, value) ∷ drop (p.row + 1) runs → p.left ≤ m
    → sum_first m (coming runs p) ≡ p.left * p.value + sum_first (m - p.left) (coming runs (record { row = p.row + 1; left = count; value = value }))
row_sum runs p count value m e h = ap (sum_first m) (next_rest runs p count value e) ∙ sum_same p.left p.value m _ h

pub row_length : (runs : List (ℕ × ℕ)) (p : RunPlace) (count value : ℕ) → drop p.row runs ≡ (count, value) ∷ drop (p.row + 1) runs
    → length (coming runs p) ≡ p.left + length (coming runs (record { row = p.row + 1; left = count; value = value }))
row_length runs p count value e = ap (λ (xs : List ℕ). length xs) (next_rest runs p count value e) ∙ length_same p.left p.value _

-- behind the last row no more values are to come than are in hand
pub last_length : (payload : List ℕ) (at : RowsAt) (p : RunPlace) → at.count ≤ p.row → length (coming (runs_at payload at) p) ≡ p.left
last_length payload at p h =
    let e = ap (λ (xs : List ℕ). length xs) (last_rest payload at p h) ∙ length_same p.left p.value [] in
    omega (arith, e)

-- some of the row in hand are passed
pub some_passed : (runs : List (ℕ × ℕ)) (p : RunPlace) (m : ℕ) → m ≤ p.left → drop m (coming runs p) ≡ coming runs (record { row = p.row; left = p.left - m; value = p.value })
some_passed runs p m h =
    ap (drop m) (row_rest runs p) ∙ drop_some p.left p.value m _ h ∙ sym (row_rest runs (record { row = p.row; left = p.left - m; value = p.value }))

pub some_sum : (runs : List (ℕ × ℕ)) (p : RunPlace) (m : ℕ) → m ≤ p.left → sum_first m (coming runs p) ≡ m * p.value
some_sum runs p m h = ap (sum_first m) (row_rest runs p) ∙ sum_some p.left p.value m _ h

-- the place behind so many values
pub run_on : (payload : List ℕ) (at : RowsAt) (p q : RunPlace) (values : List ℕ) (k n : ℕ) → IsRunPlace (runs_at payload at) p (drop k values)
    → coming (runs_at payload at) q ≡ drop n (coming (runs_at payload at) p) → (q.left ≡ 0 → coming (runs_at payload at) q ≡ []) → q.row ≤ at.count → IsRunPlace (runs_at payload at) q (drop (k + n) values)
run_on payload at p q values k n was next settled within =
    let rest : coming (runs_at payload at) q ≡ drop (k + n) values = next ∙ ap (drop n) was.rest ∙ drop-drop n k values in
    record {
      rest = rest;
      settled = λ h. sym rest ∙ settled h;
      within = omega (arith, runs_length payload at);
    }

-- ---- one value on

-- a place from which the same values come, with one of them in hand if there is one
record IsSettled (runs : List (ℕ × ℕ)) (row value : ℕ) : Type 0 where
  pub place : RunPlace
  pub same : coming runs place ≡ coming runs (record { row = row; left = 0; value = value })
  pub settled : place.left ≡ 0 → coming runs place ≡ []
  pub within : place.row ≤ length runs

none_coming : (runs : List (ℕ × ℕ)) (row value : ℕ) → length runs ≤ row → coming runs (record { row = row; left = 0; value = value }) ≡ []
unfolding coming
none_coming runs row value h = ap repeated (drop_all row runs h)

settled_place : (runs : List (ℕ × ℕ)) (n row value : ℕ) → row + n ≡ length runs → IsSettled runs row value
settled_place runs zero row value e = record {
  place = record { row = row; left = 0; value = value };
  same = refl;
  settled = λ _. none_coming runs row value (omega arith);
  within = omega arith;
}
settled_place runs (suc n) row value e =
    let run = get_or runs row (0, 0) in
    by (λ next. settled_place runs n (row + 1) next (omega arith)) run.0 run.1 (drop_more runs row (0, 0) (omega arith))
  where
    by : ((next : ℕ) → IsSettled runs (row + 1) next) → (count next : ℕ) → drop row runs ≡ (count, next) ∷ drop (row + 1) runs → IsSettled runs row value
    by others zero next f =
        let more = others next in
        record { place = more.place; same = more.same ∙ sym (coming_more runs row value 0 next f); settled = more.settled; within = more.within }
    by others (suc count) next f = record {
      place = record { row = row + 1; left = suc count; value = next };
      same = sym (coming_more runs row value (suc count) next f);
      settled = λ z. absurd (omega (arith, z));
      within = omega arith;
    }

-- a place behind the value in hand
pub record IsOneOn (runs : List (ℕ × ℕ)) (p : RunPlace) : Type 0 where
  pub place : RunPlace
  pub rest : coming runs p ≡ p.value ∷ coming runs place
  pub settled : place.left ≡ 0 → coming runs place ≡ []
  pub within : place.row ≤ length runs

-- there is one
pub one_on : (runs : List (ℕ × ℕ)) (p : RunPlace) → 0 < p.left → p.row ≤ length runs → IsOneOn runs p
one_on runs p some within = by (p.left - 1) (coming_first runs p.row p.left p.value some)
  where
    by : (n : ℕ) → coming runs p ≡ p.value ∷ coming runs (record { row = p.row; left = n; value = p.value }) → IsOneOn runs p
    by zero e =
        let s = settled_place runs (length runs - p.row) p.row p.value (omega arith) in
        record { place = s.place; rest = e ∙ ap (λ (xs : List ℕ). p.value ∷ xs) (sym s.same); settled = s.settled; within = s.within }
    by (suc n) e = record {
      place = record { row = p.row; left = suc n; value = p.value };
      rest = e;
      settled = λ z. absurd (omega (arith, z));
      within = within;
    }

-- the sum with the next value
pub sum_next : (n value : ℕ) (xs ys : List ℕ) → drop n xs ≡ value ∷ ys → sum_first (n + 1) xs ≡ sum_first n xs + value
sum_next zero value [] ys e = cc
sum_next zero value (x ∷ xs) ys e = let f : x ≡ value = cc in let t : sum_first (zero + 1) (x ∷ xs) ≡ x + sum_first 0 xs = refl in omega (arith, f, t)
sum_next (suc n) value [] ys e = cc
sum_next (suc n) value (x ∷ xs) ys e = let s = sum_next n value xs ys e in let one : suc n + 1 ≡ suc (n + 1) = omega arith in let t : sum_first (suc n + 1) (x ∷ xs) ≡ x + sum_first (n + 1) xs = ap (λ m. sum_first m (x ∷ xs)) one in omega (arith, s, t)
