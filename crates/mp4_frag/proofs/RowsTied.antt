-- The samples of a run as a walk hands them out are those of the definition, with times and groups.
use Rattle.std.proofs.Common.{◌≡◌, ℕ, zero, suc, ◌+◌, ◌^◌, ◌<◌, ◌≤◌, ◌%◌, true, false, List, [], ◌∷◌, ◌++◌, length, drop, map, Option, Some, None, get_or, refl, sym, ap, ◌∙◌, rules, arith}
use Rattle.std.specs.Prelude.{ℤ, pos, ◌+ℤ◌, unwrap_or, option_map, IfSome, slice_index}
use Rattle.std.proofs.lemmas.List.{get_or-drop, drop-drop}
use Rattle.mp4_boxes.specs.format.Bytes.{width_of}
use Rattle.mp4_boxes.specs.format.Layout.{column_values, sample_columns, present, run_offsets, too_large}
use Rattle.mp4_boxes.proofs.Plain.{and_is_true}
use Rattle.mp4_tables.specs.format.Groups.{GroupKey, Groups}
use Rattle.mp4_tables.specs.format.PlainSamples.{PlacedSample, with_groups}
use Rattle.mp4_tables.specs.format.TableRules.{lies_within}
use Rattle.mp4_tables.specs.format.Tables.{composition_offset}
use Rattle.mp4_tables.specs.words.Timed.{indexes, sample_at, timed}
use Rattle.mp4_tables.specs.declared.sample.SampleAt.{SampleAt}
use Rattle.mp4_frag.specs.format.Fragments.{RunRow, TrackFragment, column, run_rows}
use Rattle.mp4_frag.specs.format.FragmentSamples.{inherited, flags_of, run_samples}
use Rattle.mp4_frag.specs.words.Passing.{within_from, end_from, lasting}
use Rattle.mp4_frag.specs.words.Reading.{inheritance}
use Rattle.mp4_frag.specs.words.Walks.{Reached, capped, sample_of, next_number, rows_coming}
use Rattle.mp4_frag.specs.declared.trex.Trex.{Trex}
use Rattle.mp4_frag.proofs.SamplesOfRows.{inherited_is}
use Rattle.mp4_frag.proofs.Ranges.{first_small}

-- ---- composition offsets of version 0

offset_alike : (o : Option ℕ) → IfSome o (λ n. n < 2 ^ 31) → option_map (composition_offset 1) o ≡ option_map (composition_offset 0) o
offset_alike None h = refl
offset_alike (Some n) h = ap Some (search rules)

-- offsets that are small are the same with a sign and without
pub rows_alike : (n bits : ℕ) (bytes : List ℕ) → too_large (run_offsets n bits bytes) ≡ false → run_rows n 1 bits bytes ≡ run_rows n 0 bits bytes
rows_alike zero bits bytes e = refl
rows_alike (suc n) bits bytes e =
    let width = width_of (present bits sample_columns) in
    let values = column_values bits sample_columns bytes in
    let p = first_small (column values 3) (run_offsets n bits (drop width bytes)) e in
    let offset = offset_alike (column values 3) p.0 in
    let more = rows_alike n bits (drop width bytes) p.1 in
    λ i. record { duration = column values 0; size = column values 1; flags = column values 2; offset = offset i } ∷ more i

-- ---- numbers that are held

-- a sample in the file ends at a place of 64 bits
in_file : (L size n : ℕ) → L < 2 ^ 64 → lies_within L (pos n) size ≡ true → capped (n + size) ≡ n + size
in_file L size n short lies =
    let le : n + size ≤ L = search rules in
    let low : n + size < 2 ^ 64 = omega arith in
    search rules

-- a time in 64 bits
pub in_time : (time : ℕ) → time < 2 ^ 64 → capped time ≡ time
in_time time h = search rules

-- ---- groups

-- the indexes to come are those of these groups
abbrev pub AreShown : List GroupKey → List (List ℕ) → List Groups → Type 0
AreShown keys lists maps = (i : ℕ) → map (λ l. slice_index l i) lists ≡ indexes keys (get_or maps i [])

later_lists : (k i : ℕ) (lists : List (List ℕ)) → map (λ l. slice_index l i) (map (drop k) lists) ≡ map (λ l. slice_index l (k + i)) lists
later_lists k i [] = refl
later_lists k i (l ∷ lists) = let one = get_or-drop k l i 0 in let more = later_lists k i lists in λ j. one j ∷ more j

-- so are the later ones
pub shown_later : (keys : List GroupKey) (k : ℕ) (lists : List (List ℕ)) (maps : List Groups) → AreShown keys lists maps → AreShown keys (map (drop k) lists) (drop k maps)
shown_later keys k lists maps h i = later_lists k i lists ∙ h (k + i) ∙ ap (indexes keys) (sym (get_or-drop k maps i []))

pub none_grouped : (samples : List PlacedSample) → with_groups [] samples ≡ samples
none_grouped [] = refl
none_grouped (s ∷ samples) = refl

first_grouped : (maps : List Groups) (s : PlacedSample) (samples : List PlacedSample) → s.groups ≡ [] → with_groups maps (s ∷ samples) ≡ record s { groups = get_or maps 0 [] } ∷ with_groups (drop 1 maps) samples
first_grouped [] s samples e = let rest = none_grouped samples in λ i. record s { groups = e i } ∷ sym rest i
first_grouped (m ∷ maps) s samples e = refl

-- ---- rows

-- what goes for the samples of a `traf`
abbrev pub stand : TrackFragment → Trex → ℕ → ℕ → ℕ → ℤ → List (List ℕ) → Reached
stand traf trex number dts at base lists = record { number = number; dts = dts; at = at; base = base; inherited = inheritance traf trex; indexes = lists }

abbrev pub size_of : TrackFragment → Trex → ℕ
size_of traf trex = unwrap_or traf.size trex.size

abbrev pub lasts_of : TrackFragment → Trex → ℕ
lasts_of traf trex = unwrap_or traf.duration trex.duration

-- where data goes on behind rows whose data begins at a place
abbrev pub end_at : ℕ → ℕ → List RunRow → ℕ
end_at size n [] = n
end_at size n (row ∷ rows) = end_at size (n + unwrap_or row.size size) rows

pub end_at_is : (size n : ℕ) (rows : List RunRow) → end_from size (pos n) rows ≡ pos (end_at size n rows)
end_at_is size n [] = refl
end_at_is size n (row ∷ rows) = end_at_is size (n + unwrap_or row.size size) rows

flags_alike : (first own head : Option ℕ) (last : ℕ) → flags_of first own None (unwrap_or head last) ≡ flags_of first own head last
flags_alike (Some flags) own head last = refl
flags_alike None own head last = ap (λ n. n % 2 ^ 28) (inherited_is own None (unwrap_or head last) ∙ sym (inherited_is own head last))

no_lists_passed : (lists : List (List ℕ)) → lists ≡ map (drop 0) lists
no_lists_passed [] = refl
no_lists_passed (l ∷ lists) = ap (λ (ls : List (List ℕ)). l ∷ ls) (no_lists_passed lists)

lists_passed : (k : ℕ) (lists : List (List ℕ)) → map (drop k) (map (drop 1) lists) ≡ map (drop (suc k)) lists
lists_passed k [] = refl
lists_passed k (l ∷ lists) = let next : 1 + k ≡ suc k = omega arith in let one : drop k (drop 1 l) ≡ drop (suc k) l = drop-drop k 1 l ∙ ap (λ n. drop n l) next in let more = lists_passed k lists in λ i. one i ∷ more i

-- the sample of a row
sample_tied : (keys : List GroupKey) (traf : TrackFragment) (trex : Trex) (number dts at : ℕ) (base : ℤ) (lists : List (List ℕ)) (first : Option ℕ) (row : RunRow) (maps : List Groups)
    → AreShown keys lists maps
    → sample_of (stand traf trex number dts at base lists) first row
    ≡ sample_at keys number dts (record {
      duration = inherited row.duration traf.duration trex.duration;
      offset = unwrap_or row.offset (pos 0);
      flags = flags_of first row.flags traf.flags trex.flags;
      description = unwrap_or traf.description trex.description;
      at = pos at;
      size = inherited row.size traf.size trex.size;
      groups = get_or maps 0 [];
    })
sample_tied keys traf trex number dts at base lists first row maps shown =
    let duration = sym (inherited_is row.duration traf.duration trex.duration) in
    let size = sym (inherited_is row.size traf.size trex.size) in
    let flags = flags_alike first row.flags traf.flags trex.flags in
    let groups = shown 0 in
    λ i. record { dts = dts; duration = duration i; cto = unwrap_or row.offset (pos 0); flags = flags i; description = unwrap_or traf.description trex.description; at = at; size = size i; groups = groups i; number = number }

-- the samples of rows, and what comes behind them
pub rows_tied : (keys : List GroupKey) (L : ℕ) (traf : TrackFragment) (trex : Trex) (number dts at : ℕ) (base : ℤ) (lists : List (List ℕ)) (first : Option ℕ) (rows : List RunRow) (maps : List Groups) (more : Reached → List SampleAt)
    → L < 2 ^ 64 → AreShown keys lists maps → within_from L (size_of traf trex) (pos at) rows ≡ true → number + length rows < 2 ^ 32 → dts + lasting (lasts_of traf trex) rows < 2 ^ 64
    → rows_coming (stand traf trex number dts at base lists) first rows more
    ≡ timed keys number dts (with_groups maps (run_samples trex traf first (pos at) rows)) ++ more (stand traf trex (number + length rows) (dts + lasting (lasts_of traf trex) rows) (end_at (size_of traf trex) at rows) base (map (drop (length rows)) lists))
rows_tied keys L traf trex number dts at base lists first [] maps more short shown within room fits =
    let none : with_groups maps [] ≡ [] = no_samples maps in
    let next : number ≡ number + 0 = omega arith in
    let time : dts ≡ dts + 0 = omega arith in
    let same = no_lists_passed lists in
    (λ i. more (stand traf trex (next i) (time i) at base (same i))) ∙ ap (λ (ss : List PlacedSample). timed keys number dts ss ++ more (stand traf trex (number + 0) (dts + 0) at base (map (drop 0) lists))) (sym none)
  where
    no_samples : (ms : List Groups) → with_groups ms [] ≡ []
    no_samples [] = refl
    no_samples (m ∷ ms) = refl
rows_tied keys L traf trex number dts at base lists first (row ∷ rows) maps more short shown within room fits =
    let size = unwrap_or row.size (size_of traf trex) in
    let lasts = unwrap_or row.duration (lasts_of traf trex) in
    let parts = and_is_true (lies_within L (pos at) size) (within_from L (size_of traf trex) (pos (at + size)) rows) within in
    let one = sample_tied keys traf trex number dts at base lists first row maps shown in
    let next : next_number number ≡ number + 1 = omega (arith, room) in
    let last : number + 1 + length rows ≡ number + suc (length rows) = omega arith in
    let time : capped (dts + lasts) ≡ dts + lasts = in_time (dts + lasts) (omega arith) in
    let place = in_file L size at short parts.0 in
    let whole : dts + lasts + lasting (lasts_of traf trex) rows ≡ dts + (lasts + lasting (lasts_of traf trex) rows) = omega arith in
    let passed = lists_passed (length rows) lists in
    let duration = inherited_is row.duration traf.duration trex.duration in
    let width = inherited_is row.size traf.size trex.size in
    let others = rows_tied keys L traf trex (number + 1) (dts + lasts) (at + size) base (map (drop 1) lists) None rows (drop 1 maps) more short (shown_later keys 1 lists maps shown) parts.1 (omega (arith, room)) (omega arith) in
    let grouped = first_grouped maps (record {
      duration = inherited row.duration traf.duration trex.duration;
      offset = unwrap_or row.offset (pos 0);
      flags = flags_of first row.flags traf.flags trex.flags;
      description = unwrap_or traf.description trex.description;
      at = pos at;
      size = inherited row.size traf.size trex.size;
      groups = [];
    })
    (run_samples trex traf None (pos at +ℤ pos (inherited row.size traf.size trex.size)) rows) refl in
    (λ i. one i ∷ rows_coming (stand traf trex (next i) (time i) (place i) base (map (drop 1) lists)) None rows more)
    ∙ (λ i. one 1 ∷ others i)
    ∙ (λ i. one 1 ∷ (timed keys (number + 1) (dts + sym duration i) (with_groups (drop 1 maps) (run_samples trex traf None (pos at +ℤ pos (sym width i)) rows)) ++ more (stand traf trex (last i) (whole i) (end_at (size_of traf trex) (at + size) rows) base (passed i))))
    ∙ ap (λ (ss : List PlacedSample). timed keys number dts ss ++ more (stand traf trex (number + suc (length rows)) (dts + (lasts + lasting (lasts_of traf trex) rows)) (end_at (size_of traf trex) (at + size) rows) base (map (drop (suc (length rows))) lists))) (sym grouped)
