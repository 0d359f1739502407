-- Sums over the samples of tables: of their rows, and of their sizes.
use Rattle.std.proofs.Common.{◌≡◌, ℕ, zero, suc, ◌+◌, ◌-◌, ◌*◌, ◌^◌, ◌<◌, ◌≤◌, List, [], ◌∷◌, ◌++◌, length, take, drop, replicate, refl, ap, sym, ◌∙◌, arith, length-drop}
use Rattle.std.proofs.lemmas.List.{drop_all}
use Rattle.std.specs.Prelude.{min, unwrap_or, option_map, ℤ, pos, ◌+ℤ◌}
use Rattle.mp4_boxes.specs.format.Bytes.{sum_of}
use Rattle.mp4_tables.specs.format.Repeated.{repeated, total}
use Rattle.mp4_tables.specs.format.Groups.{GroupKey, Groups, maps_of, keys_after}
use Rattle.mp4_tables.specs.format.Tables.{Tables, ChunkRow}
use Rattle.mp4_tables.specs.format.PlainSamples.{PlacedSample, Spot, with_groups, row_of_chunk, laid_out, in_chunks, in_chunks_total, flags_from, joined, spots_of, plain_samples}
use Rattle.mp4_tables.specs.format.TableRules.{Surroundings, Fit, dependency_room, duration_counts, offset_counts, chunk_counts}
use Rattle.mp4_tables.specs.words.Rows.{runs_at, sizes_at}
use Rattle.mp4_tables.specs.words.Timed.{timed, samples_of}
use Rattle.mp4_tables.specs.words.Accepted.{IsAccepted, tables_at}
use Rattle.mp4_tables.specs.declared.places.RowsAt.{RowsAt}
use Rattle.mp4_tables.specs.declared.places.TablesAt.{TablesAt}
use Rattle.mp4_tables.specs.declared.places.SizesAt.{SizesAt}
use Rattle.mp4_tables.specs.declared.sample.SampleAt.{SampleAt}
use Rattle.mp4_tables.proofs.Counts.{eqb_is, repeated_length, chunks_length, flags_length, offsets_length, bytes_length}
use Rattle.mp4_tables.proofs.RowLists.{runs_all, sizes_length}

-- ---- lists

pub sum_joined : {A : Type 0} (f : A → ℕ) (xs ys : List A) → sum_of f (xs ++ ys) ≡ sum_of f xs + sum_of f ys
sum_joined f [] ys = omega arith
sum_joined f (x ∷ xs) ys = let more = sum_joined f xs ys in omega (arith, more)

alike : (n value : ℕ) → sum_of (λ (x : ℕ). x) (replicate n value) ≡ n * value
alike zero value = omega arith
alike (suc n) value = let more = alike n value in omega (arith, more)

-- what rows stand for adds up to each value as often as its count
abbrev pub row_sums : List (ℕ × ℕ) → ℕ
row_sums runs = sum_of (λ (run : ℕ × ℕ). run.0 * run.1) runs

pub repeated_sum : (runs : List (ℕ × ℕ)) → sum_of (λ (x : ℕ). x) (repeated runs) ≡ row_sums runs
repeated_sum [] = refl
repeated_sum (run ∷ runs) =
    let more = repeated_sum runs in
    sum_joined (λ (x : ℕ). x) (replicate run.0 run.1) (repeated runs) ∙ (λ i. alike run.0 run.1 i + more i)

-- ---- the next row and the next size of a sum that stays at its most

-- no row is left behind the last
pub rows_all : (payload : List ℕ) (at : RowsAt) (k sum all : ℕ) → at.count ≤ k → sum < 2 ^ 64 → min (sum + row_sums (drop k (runs_at payload at))) (2 ^ 64 - 1) ≡ min all (2 ^ 64 - 1) → sum ≡ min all (2 ^ 64 - 1)
rows_all payload at k sum all h lt e = let none = ap row_sums (runs_all payload at k h) in omega (arith, none, lt, e)

pub sizes_all : (payload : List ℕ) (at : SizesAt) (i sum all : ℕ) → at.rows.count ≤ i → sum < 2 ^ 64 → min (sum + sum_of (λ (x : ℕ). x) (drop i (sizes_at payload at))) (2 ^ 64 - 1) ≡ min all (2 ^ 64 - 1) → sum ≡ min all (2 ^ 64 - 1)
sizes_all payload at i sum all h lt e =
    let long = sizes_length at.form payload at.rows in
    let none = ap (sum_of (λ (x : ℕ). x)) (drop_all i (sizes_at payload at) (omega (arith, long, h))) in
    omega (arith, none, lt, e)

-- ---- samples

-- groups change neither durations nor sizes
grouped_durations : (maps : List Groups) (samples : List PlacedSample) → sum_of (λ (s : PlacedSample). s.duration) (with_groups maps samples) ≡ sum_of (λ (s : PlacedSample). s.duration) samples
grouped_durations [] [] = refl
grouped_durations (g ∷ maps) [] = refl
grouped_durations [] (s ∷ samples) = refl
grouped_durations (g ∷ maps) (s ∷ samples) = ap (λ (n : ℕ). s.duration + n) (grouped_durations maps samples)

grouped_sizes : (maps : List Groups) (samples : List PlacedSample) → sum_of (λ (s : PlacedSample). s.size) (with_groups maps samples) ≡ sum_of (λ (s : PlacedSample). s.size) samples
grouped_sizes [] [] = refl
grouped_sizes (g ∷ maps) [] = refl
grouped_sizes [] (s ∷ samples) = refl
grouped_sizes (g ∷ maps) (s ∷ samples) = ap (λ (n : ℕ). s.size + n) (grouped_sizes maps samples)

-- nor does joining, where there are as many of each part
joined_durations : (xs : List ℕ) (bs : List ℤ) (cs : List ℕ) (ds : List Spot) → length xs ≡ length ds → length bs ≡ length ds → length cs ≡ length ds
    → sum_of (λ (s : PlacedSample). s.duration) (joined xs bs cs ds) ≡ sum_of (λ (x : ℕ). x) xs
joined_durations [] bs cs [] e f g = refl
joined_durations [] bs cs (d ∷ ds) e f g = absurd (omega (arith, e))
joined_durations (x ∷ xs) bs cs [] e f g = absurd (omega (arith, e))
joined_durations (x ∷ xs) [] cs (d ∷ ds) e f g = absurd (omega (arith, f))
joined_durations (x ∷ xs) (b ∷ bs) [] (d ∷ ds) e f g = absurd (omega (arith, g))
joined_durations (x ∷ xs) (b ∷ bs) (c ∷ cs) (d ∷ ds) e f g = ap (λ (n : ℕ). x + n) (joined_durations xs bs cs ds (omega (arith, e)) (omega (arith, f)) (omega (arith, g)))

joined_sizes : (xs : List ℕ) (bs : List ℤ) (cs : List ℕ) (ds : List Spot) → length xs ≡ length ds → length bs ≡ length ds → length cs ≡ length ds
    → sum_of (λ (s : PlacedSample). s.size) (joined xs bs cs ds) ≡ sum_of (λ (s : Spot). s.size) ds
joined_sizes [] bs cs [] e f g = refl
joined_sizes [] bs cs (d ∷ ds) e f g = absurd (omega (arith, e))
joined_sizes (x ∷ xs) bs cs [] e f g = absurd (omega (arith, e))
joined_sizes (x ∷ xs) [] cs (d ∷ ds) e f g = absurd (omega (arith, f))
joined_sizes (x ∷ xs) (b ∷ bs) [] (d ∷ ds) e f g = absurd (omega (arith, g))
joined_sizes (x ∷ xs) (b ∷ bs) (c ∷ cs) (d ∷ ds) e f g = ap (λ (n : ℕ). d.size + n) (joined_sizes xs bs cs ds (omega (arith, e)) (omega (arith, f)) (omega (arith, g)))

laid_sizes : (at : ℤ) (description : ℕ) (sizes : List ℕ) → sum_of (λ (s : Spot). s.size) (laid_out at description sizes) ≡ sum_of (λ (x : ℕ). x) sizes
laid_sizes at description [] = refl
laid_sizes at description (size ∷ sizes) = ap (λ (n : ℕ). size + n) (laid_sizes (at +ℤ pos size) description sizes)

cut_sizes : (n : ℕ) (sizes : List ℕ) → sum_of (λ (x : ℕ). x) sizes ≡ sum_of (λ (x : ℕ). x) (take n sizes) + sum_of (λ (x : ℕ). x) (drop n sizes)
cut_sizes zero sizes = omega arith
cut_sizes (suc n) [] = omega arith
cut_sizes (suc n) (size ∷ sizes) = let more = cut_sizes n sizes in omega (arith, more)

-- chunks that hold all samples have all sizes
chunk_sizes : (rs : List ChunkRow) (c : ℕ) (offsets sizes : List ℕ) → in_chunks_total rs c offsets ≡ length sizes → sum_of (λ (s : Spot). s.size) (in_chunks rs c offsets sizes) ≡ sum_of (λ (x : ℕ). x) sizes
chunk_sizes rs c [] [] h = refl
chunk_sizes rs c [] (size ∷ sizes) h = absurd (omega (arith, h))
chunk_sizes rs c (offset ∷ offsets) sizes h =
    let r = row_of_chunk rs c in
    let left = length-drop r.count sizes in
    let here = laid_sizes (pos offset) r.description (take r.count sizes) in
    let more = chunk_sizes rs (c + 1) offsets (drop r.count sizes) (omega (arith, h, left)) in
    let both = sum_joined (λ (s : Spot). s.size) (laid_out (pos offset) r.description (take r.count sizes)) (in_chunks rs (c + 1) offsets (drop r.count sizes)) in
    omega (arith, both, here, more, cut_sizes r.count sizes)

-- as many of each part as there are sizes
record AreAsMany (t : Tables) : Type 0 where
  pub spots : length (spots_of t) ≡ length t.sizes
  pub durations : length (repeated t.durations) ≡ length (spots_of t)
  pub offsets : length (unwrap_or (option_map repeated t.offsets) (replicate (length t.sizes) (pos 0))) ≡ length (spots_of t)
  pub flags : length (flags_from t.sync 1 (unwrap_or (option_map (take (length t.sizes)) t.dependencies) (replicate (length t.sizes) 0))) ≡ length (spots_of t)
  pub chunks : in_chunks_total t.chunk_rows 1 t.chunk_offsets ≡ length t.sizes

as_many : (s : Surroundings) (t : Tables) → Fit s t → AreAsMany t
as_many s t fit =
    let n = length t.sizes in
    let chunks : in_chunks_total t.chunk_rows 1 t.chunk_offsets ≡ n = eqb_is _ n (fit chunk_counts) in
    let spots : length (spots_of t) ≡ n = chunks_length t.chunk_rows 1 t.chunk_offsets t.sizes (omega (arith, chunks)) ∙ chunks in
    let deps = unwrap_or (option_map (take n) t.dependencies) (replicate n 0) in
    record {
      spots = spots;
      durations = repeated_length t.durations ∙ eqb_is (total t.durations) n (fit duration_counts) ∙ sym spots;
      offsets = offsets_length n t.offsets (fit offset_counts) ∙ sym spots;
      flags = flags_length t.sync 1 deps ∙ bytes_length n t.dependencies (fit dependency_room) ∙ sym spots;
      chunks = chunks;
    }

plain_durations : (s : Surroundings) (t : Tables) → Fit s t → sum_of (λ (s : PlacedSample). s.duration) (plain_samples t) ≡ sum_of (λ (x : ℕ). x) (repeated t.durations)
plain_durations s t fit =
    let a = as_many s t fit in
    let n = length t.sizes in
    let deps = unwrap_or (option_map (take n) t.dependencies) (replicate n 0) in
    let plain = joined (repeated t.durations) (unwrap_or (option_map repeated t.offsets) (replicate n (pos 0))) (flags_from t.sync 1 deps) (spots_of t) in
    grouped_durations (maps_of n t.groups) plain
    ∙ joined_durations (repeated t.durations) (unwrap_or (option_map repeated t.offsets) (replicate n (pos 0))) (flags_from t.sync 1 deps) (spots_of t) a.durations a.offsets a.flags

plain_sizes : (s : Surroundings) (t : Tables) → Fit s t → sum_of (λ (s : PlacedSample). s.size) (plain_samples t) ≡ sum_of (λ (x : ℕ). x) t.sizes
plain_sizes s t fit =
    let a = as_many s t fit in
    let n = length t.sizes in
    let deps = unwrap_or (option_map (take n) t.dependencies) (replicate n 0) in
    let plain = joined (repeated t.durations) (unwrap_or (option_map repeated t.offsets) (replicate n (pos 0))) (flags_from t.sync 1 deps) (spots_of t) in
    grouped_sizes (maps_of n t.groups) plain
    ∙ joined_sizes (repeated t.durations) (unwrap_or (option_map repeated t.offsets) (replicate n (pos 0))) (flags_from t.sync 1 deps) (spots_of t) a.durations a.offsets a.flags
    ∙ chunk_sizes t.chunk_rows 1 t.chunk_offsets t.sizes a.chunks

-- samples that are handed out one after the other last as long, and have as many bytes
pub timed_lasts : (keys : List GroupKey) (number dts : ℕ) (samples : List PlacedSample) → sum_of (λ (s : SampleAt). s.duration) (timed keys number dts samples) ≡ sum_of (λ (s : PlacedSample). s.duration) samples
timed_lasts keys number dts [] = refl
timed_lasts keys number dts (s ∷ samples) = ap (λ (n : ℕ). s.duration + n) (timed_lasts keys (number + 1) (dts + s.duration) samples)

pub timed_bytes : (keys : List GroupKey) (number dts : ℕ) (samples : List PlacedSample) → sum_of (λ (s : SampleAt). s.size) (timed keys number dts samples) ≡ sum_of (λ (s : PlacedSample). s.size) samples
timed_bytes keys number dts [] = refl
timed_bytes keys number dts (s ∷ samples) = ap (λ (n : ℕ). s.size + n) (timed_bytes keys (number + 1) (dts + s.duration) samples)

pub samples_last : (s : Surroundings) (t : Tables) → Fit s t → sum_of (λ (s : SampleAt). s.duration) (samples_of t) ≡ sum_of (λ (x : ℕ). x) (repeated t.durations)
unfolding samples_of
samples_last s t fit = timed_lasts (keys_after [] t.groups) 0 0 (plain_samples t) ∙ plain_durations s t fit

pub samples_have : (s : Surroundings) (t : Tables) → Fit s t → sum_of (λ (s : SampleAt). s.size) (samples_of t) ≡ sum_of (λ (x : ℕ). x) t.sizes
unfolding samples_of
samples_have s t fit = timed_bytes (keys_after [] t.groups) 0 0 (plain_samples t) ∙ plain_sizes s t fit

-- the sums over the rows of tables that were accepted are those over their samples
pub durations_are : (payload : List ℕ) (at : TablesAt) (sum : ℕ) → IsAccepted payload at → sum ≡ min (sum_of (λ (x : ℕ). x) (repeated (runs_at payload at.durations))) (2 ^ 64 - 1)
    → sum ≡ min (sum_of (λ (s : SampleAt). s.duration) (samples_of (tables_at payload at))) (2 ^ 64 - 1)
unfolding tables_at
durations_are payload at sum a e = e ∙ ap (λ n. min n (2 ^ 64 - 1)) (sym (samples_last a.surroundings (tables_at payload at) a.fit))

pub sizes_are : (payload : List ℕ) (at : TablesAt) (sum : ℕ) → IsAccepted payload at → sum ≡ min (sum_of (λ (x : ℕ). x) (sizes_at payload at.sizes)) (2 ^ 64 - 1)
    → sum ≡ min (sum_of (λ (s : SampleAt). s.size) (samples_of (tables_at payload at))) (2 ^ 64 - 1)
unfolding tables_at
sizes_are payload at sum a e = e ∙ ap (λ n. min n (2 ^ 64 - 1)) (sym (samples_have a.surroundings (tables_at payload at) a.fit))
