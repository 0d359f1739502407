-- What was read of a `trun` is what its definition says.
use Rattle.std.proofs.Common.{◌≡◌, ℕ, zero, suc, ◌+◌, ◌*◌, ◌-◌, List, Bool, true, false, not, ◌&&◌, ◌==◌, nat_eq, nat_le, IsTrue, if◌then◌else◌, refl, sym, ap, ◌∙◌, rules, arith}
use Rattle.std.specs.Prelude.{drop, ℤ}
use Rattle.mp4_boxes.specs.format.Layout.{trun, version, flags, has_large_offset, too_large, run_offsets, row_count}
use Rattle.mp4_frag.specs.words.ColumnsRead.{row_room, rows_from}
use Rattle.mp4_frag.specs.format.Fragments.{sample_run_of, run_rows}
use Rattle.mp4_frag.specs.format.FragmentSamples.{run_start}
use Rattle.mp4_frag.specs.words.Reading.{IsRun}
use Rattle.mp4_frag.specs.words.Passing.{rows_left, offsets_left, run_version, within_from, end_from, lasting, filling, IsRunPassed}
use Rattle.mp4_frag.specs.declared.heads.Inherited.{Inherited}
use Rattle.mp4_frag.specs.declared.trun.Run.{Run}

-- a version up to 1 is told by whether it is 1
version_of_two : (v : ℕ) (b : Bool) → b ≡ nat_eq v 1 → IsTrue (nat_le v 1) → (if b then 1 else 0) ≡ v
version_of_two zero b e le = rw e refl
version_of_two (suc zero) b e le = rw e refl
version_of_two (suc (suc v)) b e le = absurd (search rules)

pub version_again : (payload : List ℕ) (run : Run) → IsRun payload run → run_version run ≡ version payload
version_again payload run r = version_of_two (version payload) run.is_signed r.is_signed r.readable.version

none_passed : (n m : ℕ) → n ≡ m → n - 0 ≡ m
none_passed n m e = omega arith

at_first : (place p width : ℕ) → place ≡ p → place + 0 * width ≡ p
at_first place p width e = omega arith

same_rows : (count n v w bits b place p width : ℕ) (payload : List ℕ) → count ≡ n → v ≡ w → bits ≡ b → place ≡ p
    → run_rows (count - 0) v bits (drop (place + 0 * width) payload) ≡ run_rows n w b (drop p payload)
same_rows count n v w bits b place p width payload ec ev eb ep =
    let left = none_passed count n ec in
    let first = at_first place p width ep in
    λ i. run_rows (left i) (ev i) (eb i) (drop (first i) payload)

same_offsets : (count n bits b place p width : ℕ) (payload : List ℕ) → count ≡ n → bits ≡ b → place ≡ p
    → run_offsets (count - 0) bits (drop (place + 0 * width) payload) ≡ run_offsets n b (drop p payload)
same_offsets count n bits b place p width payload ec eb ep =
    let left = none_passed count n ec in
    let first = at_first place p width ep in
    λ i. run_offsets (left i) (eb i) (drop (first i) payload)

-- all rows are left before the first
pub all_rows : (payload : List ℕ) (run : Run) → IsRun payload run → rows_left payload run 0 ≡ (sample_run_of payload).rows
unfolding rows_left
all_rows payload run r =
    same_rows run.count (row_count trun payload) (run_version run) (version payload) run.bits (flags payload) run.rows (rows_from (flags payload)) (row_room run.bits) payload
    r.count (version_again payload run r) r.bits r.rows

pub all_offsets : (payload : List ℕ) (run : Run) → IsRun payload run
    → offsets_left payload run 0 ≡ run_offsets (row_count trun payload) (flags payload) (drop (rows_from (flags payload)) payload)
unfolding offsets_left
all_offsets payload run r =
    same_offsets run.count (row_count trun payload) run.bits (flags payload) run.rows (rows_from (flags payload)) (row_room run.bits) payload r.count r.bits r.rows

-- of a version up to 1, 0 is what is not 1
zero_if : (v : ℕ) (b c : Bool) → b ≡ nat_eq v 1 → IsTrue (nat_le v 1) → (not b && c) ≡ ((v == 0) && c)
zero_if zero b c e le = rw e refl
zero_if (suc zero) b c e le = rw e refl
zero_if (suc (suc v)) b c e le = absurd (search rules)

-- its offsets are too large where they are not signed and one of them is too large
pub large_is : (payload : List ℕ) (run : Run) (large : Bool) → IsRun payload run → large ≡ too_large (offsets_left payload run 0) → (not run.is_signed && large) ≡ has_large_offset trun payload
large_is payload run large r e =
    zero_if (version payload) run.is_signed large r.is_signed r.readable.version
    ∙ ap (λ b. (version payload == 0) && b) (e ∙ ap too_large (all_offsets payload run r))

-- the samples that were judged are those of the definition
pub within_same : (payload : List ℕ) (run : Run) (length size : ℕ) (base before at : ℤ) (b : Bool) → IsRun payload run → at ≡ run_start base before run.data_offset
    → b ≡ within_from length size at (rows_left payload run 0) → b ≡ within_from length size (run_start base before (sample_run_of payload).data_offset) (sample_run_of payload).rows
within_same payload run length size base before at b r ea eb =
    let from = ea ∙ ap (run_start base before) r.data_offset in
    let rows = all_rows payload run r in
    eb ∙ (λ i. within_from length size (from i) (rows i))

-- one of them does not lie in the file
pub run_outside : (payload : List ℕ) (run : Run) (length size : ℕ) (base before at : ℤ) (b : Bool) → IsRun payload run → at ≡ run_start base before run.data_offset
    → b ≡ within_from length size at (rows_left payload run 0) → b ≡ false → within_from length size (run_start base before (sample_run_of payload).data_offset) (sample_run_of payload).rows ≡ false
run_outside payload run length size base before at b r ea eb e = sym (within_same payload run length size base before at b r ea eb) ∙ e

-- all of it is as it should be
pub run_passes : (payload : List ℕ) (run : Run) (length : ℕ) (inherited : Inherited) (base before at end : ℤ) (b large : Bool) (duration bytes : ℕ) → IsRun payload run → at ≡ run_start base before run.data_offset
    → b ≡ within_from length inherited.size at (rows_left payload run 0) → b ≡ true
    → end ≡ end_from inherited.size at (rows_left payload run 0)
    → duration ≡ lasting inherited.duration (rows_left payload run 0)
    → bytes ≡ filling inherited.size (rows_left payload run 0)
    → large ≡ too_large (offsets_left payload run 0) → (not run.is_signed && large) ≡ false
    → IsRunPassed length inherited base before payload end run.count duration bytes
run_passes payload run length inherited base before at end b large duration bytes r ea eb e ee ed ef el small =
    let from = ea ∙ ap (run_start base before) r.data_offset in
    let rows = all_rows payload run r in
    record {
      sound = record { readable = r.readable; value = refl; inside = refl; offsets = sym (large_is payload run large r el) ∙ small };
      within = sym (within_same payload run length inherited.size base before at b r ea eb) ∙ e;
      end = ee ∙ (λ i. end_from inherited.size (from i) (rows i));
      count = r.count;
      duration = ed ∙ ap (lasting inherited.duration) rows;
      bytes = ef ∙ ap (filling inherited.size) rows;
    }
