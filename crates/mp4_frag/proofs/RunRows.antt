-- The rows of a run from one to the next.
use Rattle.std.proofs.Common.{◌≡◌, ℕ, zero, suc, ◌==◌, ◌+◌, ◌-◌, ◌*◌, ◌<◌, ◌≤◌, List, [], ◌∷◌, drop, Bool, true, false, ◌||◌, ◌^◌, nat_le, Option, Some, None, refl, sym, ap, ◌∙◌, to_z, of_z, rules, arith}
use Rattle.std.specs.Prelude.{unwrap_or, ℤ, pos, ◌+ℤ◌}
use Rattle.mp4_tables.specs.format.TableRules.{lies_within}
use Rattle.std.specs.Int.{w128}
use Rattle.std.proofs.lemmas.Int.{to_z-of_z}
use Rattle.std.proofs.lemmas.List.{drop-drop}
use Rattle.mp4_boxes.specs.format.Layout.{column_values, sample_columns, too_large}
use Rattle.mp4_frag.specs.words.ColumnsRead.{row_room}
use Rattle.mp4_frag.specs.format.Fragments.{RunRow, run_rows}
use Rattle.mp4_frag.specs.words.Reading.{row_values}
use Rattle.mp4_frag.specs.words.Passing.{AreSamplesOf, rows_left, offsets_left, bytes_left, row_seen, run_version, IsNear, IsNearer, within_from, end_from, lasting, filling}
use Rattle.mp4_frag.specs.declared.run_rows.ReadRow.{ReadRow}
use Rattle.mp4_frag.specs.declared.sample_runs.Judged.{Judged}
use Rattle.mp4_frag.specs.declared.sample_runs.JudgedSamples.{JudgedSamples}
use Rattle.mp4_frag.specs.declared.trun.Run.{Run}

-- one less is left behind a row
less_left : (n k : ℕ) → k < n → n - k ≡ suc (n - (k + 1))
less_left n k lt = omega arith

-- the bytes behind a row
bytes_behind : (payload : List ℕ) (run : Run) (k : ℕ) → drop (row_room run.bits) (bytes_left payload run k) ≡ bytes_left payload run (k + 1)
bytes_behind payload run k = drop-drop (row_room run.bits) (run.rows + k * row_room run.bits) payload ∙ ap (λ n. drop n payload) (omega arith)

-- row k stands in front of the rows behind it
pub row_more : (payload : List ℕ) (run : Run) (k : ℕ) (row : ReadRow) → k < run.count → row_values row ≡ column_values run.bits sample_columns (bytes_left payload run k)
    → rows_left payload run k ≡ row_seen run row ∷ rows_left payload run (k + 1)
unfolding rows_left
row_more payload run k row lt e =
    rw (less_left run.count k lt, sym e, bytes_behind payload run k) refl

-- and so do the offsets
pub offset_more : (payload : List ℕ) (run : Run) (k : ℕ) (row : ReadRow) → k < run.count → row_values row ≡ column_values run.bits sample_columns (bytes_left payload run k)
    → offsets_left payload run k ≡ row.offset ∷ offsets_left payload run (k + 1)
unfolding offsets_left
offset_more payload run k row lt e =
    rw (less_left run.count k lt, sym e, bytes_behind payload run k) refl

-- behind the last row none is left
pub rows_none : (payload : List ℕ) (run : Run) (k : ℕ) → run.count ≤ k → rows_left payload run k ≡ []
unfolding rows_left
rows_none payload run k le =
    let none : run.count - k ≡ 0 = omega arith in
    rw none refl

pub offsets_none : (payload : List ℕ) (run : Run) (k : ℕ) → run.count ≤ k → offsets_left payload run k ≡ []
unfolding offsets_left
offsets_none payload run k le =
    let none : run.count - k ≡ 0 = omega arith in
    rw none refl

-- an offset in front of others
pub large_more : (n : Option ℕ) (ns : List (Option ℕ)) → too_large (n ∷ ns) ≡ (too_large (n ∷ []) || too_large ns)
large_more None ns = refl
large_more (Some n) ns = elim (nat_le (2 ^ 31) n) as (λ b. (b || too_large ns) ≡ ((b || false) || too_large ns)) [ true ↦ refl | false ↦ refl ]

-- ---- a row is passed

pub within_step : (length size : ℕ) (at to : ℤ) (row : RunRow) (rows later : List RunRow) → rows ≡ row ∷ later → lies_within length at (unwrap_or row.size size) ≡ true → to ≡ at +ℤ pos (unwrap_or row.size size)
    → within_from length size at rows ≡ within_from length size to later
within_step length size at to row rows later e lies moved = rw (e, lies, moved) refl

pub end_step : (size : ℕ) (at to : ℤ) (row : RunRow) (rows later : List RunRow) → rows ≡ row ∷ later → to ≡ at +ℤ pos (unwrap_or row.size size)
    → end_from size at rows ≡ end_from size to later
end_step size at to row rows later e moved = rw (e, moved) refl

pub lasting_step : (duration : ℕ) (row : RunRow) (rows later : List RunRow) → rows ≡ row ∷ later → lasting duration rows ≡ unwrap_or row.duration duration + lasting duration later
lasting_step duration row rows later e = rw e refl

pub filling_step : (size : ℕ) (row : RunRow) (rows later : List RunRow) → rows ≡ row ∷ later → filling size rows ≡ unwrap_or row.size size + filling size later
filling_step size row rows later e = rw e refl

pub large_step : (n : Option ℕ) (ns later : List (Option ℕ)) → ns ≡ n ∷ later → too_large ns ≡ (too_large (n ∷ []) || too_large later)
large_step n ns later e = rw e (large_more n later)

pub or_before : (a b c all : Bool) → all ≡ (a || (b || c)) → all ≡ ((a || b) || c)
or_before true b c all e = e
or_before false b c all e = e

-- a sample lies in a file that has as many bytes left behind its place
pub fits_left : (length left size : ℕ) → size ≤ left → left ≤ length → lies_within length (pos (length - left)) size ≡ true
fits_left length left size fits within = let le : length - left + size ≤ length = omega arith in search rules

pub left_behind : (length left size less : ℕ) → size ≤ left → left ≤ length → less ≡ left - size → pos (length - less) ≡ pos (length - left) +ℤ pos size
left_behind length left size less fits within e = ap pos (omega arith)

-- no sample lies in a file that ends before its place
none_in : (length size : ℕ) (at : ℤ) (n v bits : ℕ) (bytes : List ℕ) → ((long : ℕ) → lies_within length at long ≡ false) → within_from length size at (run_rows n v bits bytes) ≡ (n == 0)
none_in length size at zero v bits bytes out = refl
none_in length size at (suc n) v bits bytes out = let some : (suc n == 0) ≡ false = search rules in rw (out _, some) refl

pub none_within : (length size : ℕ) (at : ℤ) (payload : List ℕ) (run : Run) → ((long : ℕ) → lies_within length at long ≡ false) → within_from length size at (rows_left payload run 0) ≡ (run.count == 0)
unfolding rows_left
none_within length size at payload run out =
    let all : run.count - 0 ≡ run.count = omega arith in
    none_in length size at (run.count - 0) (run_version run) run.bits (bytes_left payload run 0) out ∙ ap (λ n. n == 0) all

-- so where no row is there nothing was passed
pub none_taken : (judged : Judged) (at : ℤ) (payload : List ℕ) (run : Run) (s : JudgedSamples) → s ≡ record { end = at; duration = 0; bytes = 0; are_within = run.count == 0; are_large = false } → s.are_within ≡ true → AreSamplesOf judged at payload run s
none_taken judged at payload run s e within =
    let no : (run.count == 0) ≡ true = sym (ap (λ (s : JudgedSamples). s.are_within) e) ∙ within in
    let count : run.count ≤ 0 = search (rules, no) in
    let rows = rows_none payload run 0 count in
    let offsets = offsets_none payload run 0 count in
    record {
      end = ap (λ (s : JudgedSamples). s.end) e ∙ sym (ap (end_from judged.inherited.size at) rows);
      duration = ap (λ (s : JudgedSamples). s.duration) e ∙ sym (ap (lasting judged.inherited.duration) rows);
      bytes = ap (λ (s : JudgedSamples). s.bytes) e ∙ sym (ap (filling judged.inherited.size) rows);
      large = ap (λ (s : JudgedSamples). s.are_large) e ∙ sym (ap too_large offsets);
    }

pub fills_on : (a l d b u e f : ℕ) → a + l ≡ d + b → b ≡ u + e → f ≡ u → u ≤ l → a + (l - f) ≡ d + e
fills_on a l d b u e f x y z le = omega arith

pub lasts_on : (a d b u e f : ℕ) → a ≡ d + b → b ≡ u + e → f ≡ u → a ≡ d + f + e
lasts_on a d b u e f x y z = omega arith

-- a place that is near keeps its value in 128 bits
pub near_again : (at : ℤ) → IsNear at → to_z w128 (of_z w128 at) ≡ at
near_again at near = to_z-of_z w128 at (search rules)

pub nearer_again : (at : ℤ) → IsNearer at → to_z w128 (of_z w128 at) ≡ at
nearer_again at near = to_z-of_z w128 at (search rules)

-- what was added is what is more
pub added : (before more : ℕ) → before + more - before ≡ more
added before more = omega arith
