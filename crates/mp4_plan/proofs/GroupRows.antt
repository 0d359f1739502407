-- The rows of a written `sbgp` are the longest runs, and its keys are those of the samples in their order.
use Rattle.std.proofs.Common.{◌≡◌, ℕ, suc, ◌<◌, Bool, true, false, List, [], ◌∷◌, refl, sym, ◌∙◌, lit<, arith}
use Rattle.std.specs.Prelude.{◌==◌}
use Rattle.std.specs.List.{AllByRecursion}
use Rattle.std.proofs.lemmas.Bool.{eqb-true, eqb-false}
use Rattle.mp4_boxes.proofs.Each.{each_weaker}
use Rattle.mp4_tables.specs.format.Groups.{GroupKey}
use Rattle.mp4_tables.proofs.NamedKeys.{IsAmong, among_more, among_first}
use Rattle.mp4_plan.specs.format.Normal.{put_run, longest_runs}
use Rattle.mp4_plan.specs.format.SpellingLaws.{DiffersFromNext, RowsAlternate, GroupRowsAreLongest, sample_keys, AreAmong, PieceKeysAreThose}
use Rattle.mp4_plan.proofs.KeyOrder.{order_rises, order_each, order_has}
use Rattle.mp4_plan.proofs.Shared.{longest_runs_again}

-- ---- rows

-- the step of `put_some`, by the value of the first row
some_case : (value : ℕ) (row : ℕ × ℕ) (rows : List (ℕ × ℕ)) (v : Bool) → (value == row.1) ≡ v → AllByRecursion (λ (r : ℕ × ℕ). 0 < r.0) (row ∷ rows) → AllByRecursion (λ (r : ℕ × ℕ). 0 < r.0) (put_run value (row ∷ rows))
some_case value row rows true e h = rw e (omega arith, h.1)
some_case value row rows false e h = rw e (lit< tt, h)

-- no row is empty behind one more value
put_some : (value : ℕ) (rows : List (ℕ × ℕ)) → AllByRecursion (λ (r : ℕ × ℕ). 0 < r.0) rows → AllByRecursion (λ (r : ℕ × ℕ). 0 < r.0) (put_run value rows)
put_some value [] h = (lit< tt, tt)
put_some value (row ∷ rows) h = some_case value row rows (value == row.1) refl h

-- a row that grows still differs from the next
next_differs : (value : ℕ) (row : ℕ × ℕ) (rows : List (ℕ × ℕ)) → value ≡ row.1 → DiffersFromNext row rows → DiffersFromNext (suc row.0, value) rows
next_differs value row [] e h = tt
next_differs value row (next ∷ rows) e h = λ f. h (sym e ∙ f)

-- the step of `put_alternate`, by the value of the first row
alternate_case : (value : ℕ) (row : ℕ × ℕ) (rows : List (ℕ × ℕ)) (v : Bool) → (value == row.1) ≡ v → RowsAlternate (row ∷ rows) → RowsAlternate (put_run value (row ∷ rows))
alternate_case value row rows true e h = rw e (next_differs value row rows (eqb-true value row.1 e) h.0, h.1)
alternate_case value row rows false e h = rw e (eqb-false value row.1 e, h)

-- neighbours differ behind one more value
put_alternate : (value : ℕ) (rows : List (ℕ × ℕ)) → RowsAlternate rows → RowsAlternate (put_run value rows)
put_alternate value [] h = (tt, tt)
put_alternate value (row ∷ rows) h = alternate_case value row rows (value == row.1) refl h

-- no row of the longest runs is empty
runs_some : (values : List ℕ) → AllByRecursion (λ (r : ℕ × ℕ). 0 < r.0) (longest_runs values)
runs_some [] = tt
runs_some (value ∷ values) = put_some value (longest_runs values) (runs_some values)

-- and neighbours differ
runs_alternate : (values : List ℕ) → RowsAlternate (longest_runs values)
runs_alternate [] = tt
runs_alternate (value ∷ values) = put_alternate value (longest_runs values) (runs_alternate values)

-- The rows of an `sbgp` are the longest runs of the indexes of its samples.
pub group_rows_are_longest : GroupRowsAreLongest
group_rows_are_longest values = record { joined = longest_runs_again values; some = runs_some values; longest = runs_alternate values }

-- ---- keys

-- keys are among themselves
among_themselves : (keys : List GroupKey) → AreAmong keys keys
among_themselves [] = tt
among_themselves (key ∷ keys) = (among_first keys key, each_weaker (IsAmong keys) (IsAmong (key ∷ keys)) (λ x h. among_more keys x key h) keys (among_themselves keys))

-- A piece has an `sbgp` for each key at which some sample has an index, once, in the order of keys.
pub piece_keys_are_those : PieceKeysAreThose
piece_keys_are_those samples = record {
  rise = order_rises (sample_keys samples);
  each = order_has (sample_keys samples);
  only = order_each (IsAmong (sample_keys samples)) (sample_keys samples) (among_themselves (sample_keys samples));
}
