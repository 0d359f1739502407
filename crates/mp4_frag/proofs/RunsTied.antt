-- The samples of the runs of a `traf` as a walk hands them out are those of the definition, with times and groups.
use Rattle.std.proofs.Common.{◌≡◌, ℕ, zero, suc, ◌+◌, ◌-◌, ◌^◌, ◌<◌, ◌≤◌, ◌&&◌, ◌==◌, nat_le, IsTrue, Bool, true, false, cond, List, [], ◌∷◌, ◌++◌, length, drop, map, Option, Some, None, refl, sym, ap, subst, ◌∙◌, rules, arith}
use Rattle.std.specs.Prelude.{ℤ, pos, negsuc, ◌+ℤ◌, unwrap_or, flat_map, codes, bytes_eq}
use Rattle.std.specs.List.{AllByRecursion}
use Rattle.std.proofs.lemmas.List.{length-append}
use Rattle.mp4_boxes.specs.format.Box.{Box}
use Rattle.mp4_boxes.specs.format.Children.{of_kind}
use Rattle.mp4_boxes.specs.format.Layout.{trun, version, flags, row_count, run_offsets, too_large, IsSound}
use Rattle.mp4_boxes.proofs.Plain.{and_is_true}
use Rattle.mp4_tables.specs.format.Groups.{GroupKey, Groups}
use Rattle.mp4_tables.specs.format.PlainSamples.{PlacedSample, with_groups}
use Rattle.mp4_tables.specs.format.TableRules.{lies_within}
use Rattle.mp4_tables.specs.words.Timed.{place_of, timed, sample_at}
use Rattle.mp4_tables.specs.declared.sample.SampleAt.{SampleAt}
use Rattle.mp4_frag.specs.words.ColumnsRead.{rows_from}
use Rattle.mp4_frag.specs.format.Fragments.{RunRow, SampleRun, TrackFragment, sample_run_of, run_rows}
use Rattle.mp4_frag.specs.format.FragmentSamples.{run_samples, run_start, runs_samples, end_of_data, duration_of, bytes_of}
use Rattle.mp4_frag.specs.format.FragmentRules.{is_within}
use Rattle.mp4_frag.specs.words.Passing.{lasting, within_from, end_from}
use Rattle.mp4_frag.specs.words.Walks.{Reached, begin, first_byte, held, rows_of, rows_coming, run_coming, runs_coming}
use Rattle.mp4_frag.specs.declared.trex.Trex.{Trex}
use Rattle.mp4_frag.proofs.LeavesRead.{read}
use Rattle.mp4_frag.proofs.SamplesOfRows.{within_is, lasting_is, end_is}
use Rattle.mp4_frag.proofs.RowsTied.{rows_alike, rows_tied, AreShown, shown_later, stand, size_of, lasts_of, end_at, end_at_is, none_grouped}
use Rattle.mp4_tables.proofs.Counts.{groups_length}

-- ---- one run

rows_of_two : (v n bits : ℕ) (bytes : List ℕ) → IsTrue (nat_le v 1) → ((v == 0) && too_large (run_offsets n bits bytes)) ≡ false → run_rows n 1 bits bytes ≡ run_rows n v bits bytes
rows_of_two zero n bits bytes le e = rows_alike n bits bytes e
rows_of_two (suc zero) n bits bytes le e = refl
rows_of_two (suc (suc v)) n bits bytes le e = absurd (search rules)

-- the rows of a sound `trun`
pub same_rows : (payload : List ℕ) → IsSound trun payload → rows_of payload ≡ (sample_run_of payload).rows
unfolding rows_of
same_rows payload s = rows_of_two (version payload) (row_count trun payload) (flags payload) (drop (rows_from (flags payload)) payload) s.readable.version s.offsets

-- a place that is held where the definition has another: the same, if that one can be one in a file
abbrev pub IsHeldFor : ℕ → ℤ → Type 0
IsHeldFor kept at = (n : ℕ) → at ≡ pos n → n < 2 ^ 64 → kept ≡ n

held_small : (n : ℕ) → n < 2 ^ 64 → held (pos n) ≡ pos n
held_small n h = let low : n ≤ 2 ^ 127 - 1 = omega arith in search rules

first_small : (n : ℕ) → n < 2 ^ 64 → first_byte (pos n) ≡ n
first_small n h = search rules

-- so is the base of runs
pub base_held : (base : ℤ) → IsHeldFor (first_byte base) base
base_held base n e small = ap first_byte e ∙ first_small n small

-- where a run begins
begin_held : (base : ℤ) (kept : ℕ) (before : ℤ) (offset : Option ℤ) → IsHeldFor kept before → IsHeldFor (begin base kept offset) (run_start base before offset)
begin_held base kept before None h n e small = h n e small
begin_held base kept before (Some offset) h n e small = ap (λ z. first_byte (held z)) e ∙ ap first_byte (held_small n small) ∙ first_small n small

-- a sample in the file begins at such a place
begins_in : (L size : ℕ) (at : ℤ) → L < 2 ^ 64 → lies_within L at size ≡ true → (n : ℕ) × (at ≡ pos n) × (n < 2 ^ 64)
begins_in L size (pos n) short lies = let le : n + size ≤ L = search rules in (n, refl, omega arith)
begins_in L size (negsuc n) short lies = absurd cc

samples_count : (trex : Trex) (traf : TrackFragment) (first : Option ℕ) (at : ℤ) (rows : List RunRow) → length rows ≡ length (run_samples trex traf first at rows)
samples_count trex traf first at [] = refl
samples_count trex traf first at (row ∷ rows) = ap suc (samples_count trex traf None _ rows)

-- where the run of a `trun` begins
abbrev pub start_of_run : ℤ → ℤ → List ℕ → ℤ
start_of_run base before payload = run_start base before (sample_run_of payload).data_offset

-- its samples
abbrev pub samples_of_run : TrackFragment → Trex → ℤ → ℤ → List ℕ → List PlacedSample
samples_of_run traf trex base before payload = run_samples trex traf (sample_run_of payload).first_sample_flags (start_of_run base before payload) (sample_run_of payload).rows

-- the samples of rows from such a place on, and what comes behind them, from another
rows_held : (keys : List GroupKey) (L : ℕ) (traf : TrackFragment) (trex : Trex) (number dts kept : ℕ) (at base : ℤ) (lists : List (List ℕ)) (first : Option ℕ) (rows : List RunRow) (maps : List Groups) (more : Reached → List SampleAt)
    → L < 2 ^ 64 → IsHeldFor kept at → AreShown keys lists maps → within_from L (size_of traf trex) at rows ≡ true → number + length rows < 2 ^ 32 → dts + lasting (lasts_of traf trex) rows < 2 ^ 64
    → (to : ℕ) × (IsHeldFor to (end_from (size_of traf trex) at rows))
    × (rows_coming (stand traf trex number dts kept base lists) first rows more
    ≡ timed keys number dts (with_groups maps (run_samples trex traf first at rows)) ++ more (stand traf trex (number + length rows) (dts + lasting (lasts_of traf trex) rows) to base (map (drop (length rows)) lists)))
rows_held keys L traf trex number dts kept at base lists first [] maps more short held_at shown within room fits = (kept, held_at, rows_tied keys L traf trex number dts kept base lists first [] maps more short shown refl room fits)
rows_held keys L traf trex number dts kept at base lists first (row ∷ rows) maps more short held_at shown within room fits =
    let size = unwrap_or row.size (size_of traf trex) in
    let there = begins_in L size at short (and_is_true (lies_within L at size) (within_from L (size_of traf trex) (at +ℤ pos size) rows) within).0 in
    let n = there.0 in
    let same : kept ≡ n = held_at n there.1 there.2 in
    let end = end_at (size_of traf trex) n (row ∷ rows) in
    let ends : end_from (size_of traf trex) at (row ∷ rows) ≡ pos end = ap (λ z. end_from (size_of traf trex) z (row ∷ rows)) there.1 ∙ end_at_is (size_of traf trex) n (row ∷ rows) in
    let inside : within_from L (size_of traf trex) (pos n) (row ∷ rows) ≡ true = ap (λ z. within_from L (size_of traf trex) z (row ∷ rows)) (sym there.1) ∙ within in (
      end,
      (λ m e small. ap place_of (sym ends ∙ e)),
      ap (λ z. rows_coming (stand traf trex number dts z base lists) first (row ∷ rows) more) same ∙ rows_tied keys L traf trex number dts n base lists first (row ∷ rows) maps more short shown inside room fits
          ∙ ap (λ z. timed keys number dts (with_groups maps (run_samples trex traf first z (row ∷ rows))) ++ more (stand traf trex (number + length (row ∷ rows)) (dts + lasting (lasts_of traf trex) (row ∷ rows)) end base (map (drop (length (row ∷ rows))) lists))) (sym there.1),
    )

-- the samples of a run, and what comes behind them
run_tied : (keys : List GroupKey) (L : ℕ) (traf : TrackFragment) (trex : Trex) (number dts kept : ℕ) (at base : ℤ) (lists : List (List ℕ)) (payload : List ℕ) (maps : List Groups) (more : Reached → List SampleAt)
    → L < 2 ^ 64 → IsHeldFor kept at → IsSound trun payload → AreShown keys lists maps → is_within L (samples_of_run traf trex base at payload) ≡ true → number + length (samples_of_run traf trex base at payload) < 2 ^ 32 → dts + duration_of (samples_of_run traf trex base at payload) < 2 ^ 64
    → (to : ℕ) × (IsHeldFor to (end_of_data (start_of_run base at payload) (samples_of_run traf trex base at payload)))
    × (run_coming (stand traf trex number dts kept base lists) payload more
    ≡ timed keys number dts (with_groups maps (samples_of_run traf trex base at payload))
    ++ more (stand traf trex (number + length (samples_of_run traf trex base at payload)) (dts + duration_of (samples_of_run traf trex base at payload)) to base (map (drop (length (samples_of_run traf trex base at payload))) lists)))
run_tied keys L traf trex number dts kept at base lists payload maps more short held_at sound shown within room fits =
    let run = sample_run_of payload in
    let start = start_of_run base at payload in
    let there = read trun payload sound.readable in
    let rows = same_rows payload sound in
    let inside = sym (within_is L trex traf run.first_sample_flags start run.rows) ∙ within in
    let lasts = lasting_is trex traf run.first_sample_flags start run.rows in
    let ends = end_is trex traf run.first_sample_flags start run.rows in
    let count = samples_count trex traf run.first_sample_flags start run.rows in
    let time : dts + lasting (lasts_of traf trex) run.rows < 2 ^ 64 = omega (arith, fits, lasts) in
    let begun = begin base kept run.data_offset in
    let all = rows_held keys L traf trex number dts begun start base lists run.first_sample_flags run.rows maps more short (begin_held base kept at run.data_offset held_at) shown inside (omega (arith, room, count)) time in (
      all.0,
      subst (IsHeldFor all.0) (sym ends) all.1,
      rw there (ap (λ (rs : List RunRow). rows_coming (stand traf trex number dts begun base lists) run.first_sample_flags rs more) rows
          ∙ all.2
          ∙ (λ i. timed keys number dts (with_groups maps (samples_of_run traf trex base at payload)) ++ more (stand traf trex (number + count i) (dts + sym lasts i) all.0 base (map (drop (count i)) lists)))),
    )

-- ---- lists of samples in two parts

pub grouped-append : (maps : List Groups) (xs ys : List PlacedSample) → with_groups maps (xs ++ ys) ≡ with_groups maps xs ++ with_groups (drop (length xs) maps) ys
grouped-append maps [] ys = refl-none maps
  where
    refl-none : (ms : List Groups) → with_groups ms ys ≡ with_groups ms [] ++ with_groups ms ys
    refl-none [] = refl
    refl-none (m ∷ ms) = refl
grouped-append [] (x ∷ xs) ys = ap (λ (ss : List PlacedSample). x ∷ xs ++ ss) (sym (none_grouped ys))
grouped-append (m ∷ maps) (x ∷ xs) ys = ap (λ (ss : List PlacedSample). record x { groups = m } ∷ ss) (grouped-append maps xs ys)

pub duration-append : (xs ys : List PlacedSample) → duration_of (xs ++ ys) ≡ duration_of xs + duration_of ys
duration-append [] ys = omega arith
duration-append (x ∷ xs) ys = omega (arith, duration-append xs ys)

pub duration_grouped : (maps : List Groups) (xs : List PlacedSample) → duration_of (with_groups maps xs) ≡ duration_of xs
duration_grouped [] [] = refl
duration_grouped [] (x ∷ xs) = refl
duration_grouped (m ∷ maps) [] = refl
duration_grouped (m ∷ maps) (x ∷ xs) = ap (λ n. x.duration + n) (duration_grouped maps xs)

pub bytes-append : (xs ys : List PlacedSample) → bytes_of (xs ++ ys) ≡ bytes_of xs + bytes_of ys
bytes-append [] ys = omega arith
bytes-append (x ∷ xs) ys = omega (arith, bytes-append xs ys)

pub bytes_grouped : (maps : List Groups) (xs : List PlacedSample) → bytes_of (with_groups maps xs) ≡ bytes_of xs
bytes_grouped [] [] = refl
bytes_grouped [] (x ∷ xs) = refl
bytes_grouped (m ∷ maps) [] = refl
bytes_grouped (m ∷ maps) (x ∷ xs) = ap (λ n. x.size + n) (bytes_grouped maps xs)

pub timed-append : (keys : List GroupKey) (number dts : ℕ) (xs ys : List PlacedSample) → timed keys number dts (xs ++ ys) ≡ timed keys number dts xs ++ timed keys (number + length xs) (dts + duration_of xs) ys
timed-append keys number dts [] ys = let k : number ≡ number + 0 = omega arith in let e : dts ≡ dts + 0 = omega arith in λ i. timed keys (k i) (e i) ys
timed-append keys number dts (x ∷ xs) ys =
    let k : number + 1 + length xs ≡ number + suc (length xs) = omega arith in
    let e : dts + x.duration + duration_of xs ≡ dts + (x.duration + duration_of xs) = omega arith in
    ap (λ (ss : List SampleAt). sample_at keys number dts x ∷ ss) (timed-append keys (number + 1) (dts + x.duration) xs ys ∙ (λ i. timed keys (number + 1) (dts + x.duration) xs ++ timed keys (k i) (e i) ys))

-- samples with their times and groups, in two parts
pub parts_joined : (keys : List GroupKey) (number dts : ℕ) (maps : List Groups) (xs ys : List PlacedSample)
    → timed keys number dts (with_groups maps (xs ++ ys)) ≡ timed keys number dts (with_groups maps xs) ++ timed keys (number + length xs) (dts + duration_of xs) (with_groups (drop (length xs) maps) ys)
parts_joined keys number dts maps xs ys =
    ap (timed keys number dts) (grouped-append maps xs ys) ∙ timed-append keys number dts (with_groups maps xs) (with_groups (drop (length xs) maps) ys)
    ∙ (λ i. timed keys number dts (with_groups maps xs) ++ timed keys (number + groups_length maps xs i) (dts + duration_grouped maps xs i) (with_groups (drop (length xs) maps) ys))

-- ---- the runs among boxes

abbrev pub run_in : Box → SampleRun
run_in b = sample_run_of b.payload

-- their samples
abbrev pub samples_of_runs : TrackFragment → Trex → ℤ → ℤ → List Box → List PlacedSample
samples_of_runs traf trex base at runs = flat_map (λ samples. samples) (runs_samples trex traf base at (map run_in runs))

abbrev AreWithin : ℕ → TrackFragment → Trex → ℤ → ℤ → List Box → Type 0
AreWithin L traf trex base at runs = AllByRecursion (λ samples. IsTrue (is_within L samples)) (runs_samples trex traf base at (map run_in runs))

-- what is so of boxes that hold these runs
abbrev Tied : List GroupKey → ℕ → TrackFragment → Trex → ℤ → List Box → List Box → Type 0
Tied keys L traf trex base boxes runs =
    (number dts kept : ℕ) (at : ℤ) (lists : List (List ℕ)) (maps : List Groups) → IsHeldFor kept at → AllByRecursion (λ (b : Box). IsSound trun b.payload) runs → AreShown keys lists maps → AreWithin L traf trex base at runs
    → number + length (samples_of_runs traf trex base at runs) < 2 ^ 32 → dts + duration_of (samples_of_runs traf trex base at runs) < 2 ^ 64
    → runs_coming (stand traf trex number dts kept base lists) boxes ≡ timed keys number dts (with_groups maps (samples_of_runs traf trex base at runs))

none_more : (keys : List GroupKey) (L : ℕ) (traf : TrackFragment) (trex : Trex) (base : ℤ) → Tied keys L traf trex base [] []
none_more keys L traf trex base number dts kept at lists [] held_at sound shown within room fits = refl
none_more keys L traf trex base number dts kept at lists (m ∷ maps) held_at sound shown within room fits = refl

one_more : (keys : List GroupKey) (L : ℕ) (traf : TrackFragment) (trex : Trex) (base : ℤ) (b : Box) (boxes runs : List Box) (v : Bool) → L < 2 ^ 64 → bytes_eq (codes "trun") b.kind ≡ v
    → Tied keys L traf trex base boxes runs → Tied keys L traf trex base (b ∷ boxes) (cond v (b ∷ runs) runs)
one_more keys L traf trex base b boxes runs false short e others number dts kept at lists maps held_at sound shown within room fits = rw e (others number dts kept at lists maps held_at sound shown within room fits)
one_more keys L traf trex base b boxes runs true short e others number dts kept at lists maps held_at sound shown within room fits =
    let xs = samples_of_run traf trex base at b.payload in
    let end = end_of_data (start_of_run base at b.payload) xs in
    let ys = samples_of_runs traf trex base end runs in
    let n = length xs in
    let many = length-append xs ys in
    let sum = duration-append xs ys in
    let inside : is_within L xs ≡ true = search (rules, within.0) in
    let first = run_tied keys L traf trex number dts kept at base lists b.payload maps (λ t. runs_coming t boxes) short held_at sound.0 shown inside (omega (arith, room, many)) (omega (arith, fits, sum)) in
    let behind = others (number + n) (dts + duration_of xs) first.0 end (map (drop n) lists) (drop n maps) first.1 sound.1 (shown_later keys n lists maps shown) within.1 (omega (arith, room, many)) (omega (arith, fits, sum)) in
    rw e (first.2 ∙ ap (λ (ss : List SampleAt). timed keys number dts (with_groups maps xs) ++ ss) behind ∙ sym (parts_joined keys number dts maps xs ys))

-- the samples of the runs of a `traf`
pub runs_tied : (keys : List GroupKey) (L : ℕ) (traf : TrackFragment) (trex : Trex) (base : ℤ) (boxes : List Box) → L < 2 ^ 64 → Tied keys L traf trex base boxes (of_kind (codes "trun") boxes)
runs_tied keys L traf trex base [] short = none_more keys L traf trex base
runs_tied keys L traf trex base (b ∷ boxes) short = one_more keys L traf trex base b boxes (of_kind (codes "trun") boxes) (bytes_eq (codes "trun") b.kind) short refl (runs_tied keys L traf trex base boxes short)
