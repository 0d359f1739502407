-- Tables that fit name as many samples as `stsz` counts.
use Rattle.std.proofs.Common.{◌≡◌, ℕ, zero, suc, ◌+◌, ◌≤◌, Bool, true, false, cond, eqb, leb, List, [], ◌∷◌, Option, Some, None, length, take, drop, replicate, refl, sym, ap, ◌∙◌, arith, length-append, length-take, length-drop}
use Rattle.std.specs.Prelude.{◌/◌, bytes_eq, map, unwrap_or, option_map, ℤ, pos, codes, ◌+ℤ◌}
use Rattle.std.proofs.lemmas.List.{length-map, length-replicate}
use borrow.Author.Tests.{true-eqb, true-leb}
use Rattle.mp4_boxes.specs.format.Bytes.{field, rows, width_of}
use Rattle.mp4_boxes.specs.format.Box.{Box}
use Rattle.mp4_boxes.specs.format.Children.{payload_of, payload_if, payload_among, sample_sizes, count_among}
use Rattle.mp4_boxes.specs.format.Layout.{stsz, fields, row, version, size_bits}
use Rattle.mp4_tables.specs.format.Tables.{Tables, ChunkRow, sample_count, first_number, sizes_of, half_bytes, compact_sizes_of, sample_sizes_of, tables_of}
use Rattle.mp4_tables.specs.format.PlainSamples.{Spot, PlacedSample, with_groups, row_of_chunk, laid_out, in_chunks, in_chunks_total, flags_from, joined, spots_of, plain_samples}
use Rattle.mp4_tables.specs.format.Repeated.{repeated, total}
use Rattle.mp4_tables.specs.format.Groups.{Groups, maps_of}
use Rattle.mp4_tables.specs.format.TableRules.{Surroundings, Fit, dependency_room, duration_counts, offset_counts, chunk_counts}

pub eqb_is : (a b : ℕ) → eqb a b ≡ true → a ≡ b
eqb_is a b e = true-eqb a b (sym e)

pub leb_is : (a b : ℕ) → leb a b ≡ true → a ≤ b
leb_is a b e = true-leb a b (sym e)

-- there are as many rows as are read
pub rows_length : (n : ℕ) (widths bytes : List ℕ) → length (rows n widths bytes) ≡ n
rows_length zero widths bytes = refl
rows_length (suc n) widths bytes = ap suc (rows_length n widths (drop (width_of widths) bytes))

pub repeated_length : {A : Type 0} (rs : List (ℕ × A)) → length (repeated rs) ≡ total rs
repeated_length [] = refl
repeated_length (r ∷ rs) = length-append (replicate r.0 r.1) (repeated rs) ∙ (λ i. length-replicate r.0 r.1 i + repeated_length rs i)

-- as many samples lie there as there are sizes
pub laid_length : (at : ℤ) (description : ℕ) (sizes : List ℕ) → length (laid_out at description sizes) ≡ length sizes
laid_length at description [] = refl
laid_length at description (size ∷ sizes) = ap suc (laid_length (at +ℤ pos size) description sizes)

pub chunks_length : (rs : List ChunkRow) (c : ℕ) (offsets sizes : List ℕ) → in_chunks_total rs c offsets ≤ length sizes → length (in_chunks rs c offsets sizes) ≡ in_chunks_total rs c offsets
chunks_length rs c [] sizes h = refl
chunks_length rs c (offset ∷ offsets) sizes h =
    let r = row_of_chunk rs c in
    let left = length-drop r.count sizes in
    let more = chunks_length rs (c + 1) offsets (drop r.count sizes) (omega (arith, h, left)) in
    omega (
      arith,
      h,
      left,
      more,
      length-append (laid_out (pos offset) r.description (take r.count sizes)) (in_chunks rs (c + 1) offsets (drop r.count sizes)),
      laid_length (pos offset) r.description (take r.count sizes),
      length-take r.count sizes,
    )

pub flags_length : (sync : Option (List ℕ)) (i : ℕ) (bytes : List ℕ) → length (flags_from sync i bytes) ≡ length bytes
flags_length sync i [] = refl
flags_length sync i (b ∷ bytes) = ap suc (flags_length sync (i + 1) bytes)

joined_length : (xs : List ℕ) (bs : List ℤ) (cs : List ℕ) (ds : List Spot) → length xs ≡ length ds → length bs ≡ length ds → length cs ≡ length ds → length (joined xs bs cs ds) ≡ length ds
joined_length [] bs cs [] e f g = refl
joined_length [] bs cs (d ∷ ds) e f g = absurd (omega (arith, e))
joined_length (a ∷ xs) bs cs [] e f g = absurd (omega (arith, e))
joined_length (a ∷ xs) [] cs (d ∷ ds) e f g = absurd (omega (arith, f))
joined_length (a ∷ xs) (b ∷ bs) [] (d ∷ ds) e f g = absurd (omega (arith, g))
joined_length (a ∷ xs) (b ∷ bs) (c ∷ cs) (d ∷ ds) e f g = ap suc (joined_length xs bs cs ds (omega (arith, e)) (omega (arith, f)) (omega (arith, g)))

pub offsets_length : (n : ℕ) (o : Option (List (ℕ × ℤ))) → unwrap_or (option_map (λ rs. eqb (total rs) n) o) true ≡ true → length (unwrap_or (option_map repeated o) (replicate n (pos 0))) ≡ n
offsets_length n None e = length-replicate n (pos 0)
offsets_length n (Some rs) e = repeated_length rs ∙ eqb_is (total rs) n e

pub bytes_length : (n : ℕ) (o : Option (List ℕ)) → unwrap_or (option_map (λ bytes. leb n (length bytes)) o) true ≡ true → length (unwrap_or (option_map (take n) o) (replicate n 0)) ≡ n
bytes_length n None e = length-replicate n 0
bytes_length n (Some bytes) e = let h : n ≤ length bytes = leb_is n (length bytes) e in omega (arith, length-take n bytes)

-- groups change no number of samples
pub groups_length : (maps : List Groups) (samples : List PlacedSample) → length (with_groups maps samples) ≡ length samples
groups_length [] [] = refl
groups_length (g ∷ maps) [] = refl
groups_length [] (s ∷ samples) = refl
groups_length (g ∷ maps) (s ∷ samples) = ap suc (groups_length maps samples)

-- the samples of tables that fit are as many as their sizes
pub plain_length : (s : Surroundings) (t : Tables) → Fit s t → length (plain_samples t) ≡ length t.sizes
plain_length s t fit =
    let n = length t.sizes in
    let chunks : in_chunks_total t.chunk_rows 1 t.chunk_offsets ≡ n = eqb_is _ n (fit chunk_counts) in
    let spots : length (spots_of t) ≡ n = chunks_length t.chunk_rows 1 t.chunk_offsets t.sizes (omega (arith, chunks)) ∙ chunks in
    let durations : length (repeated t.durations) ≡ n = repeated_length t.durations ∙ eqb_is (total t.durations) n (fit duration_counts) in
    let offsets = offsets_length n t.offsets (fit offset_counts) in
    let deps = unwrap_or (option_map (take n) t.dependencies) (replicate n 0) in
    let flags : length (flags_from t.sync 1 deps) ≡ n = flags_length t.sync 1 deps ∙ bytes_length n t.dependencies (fit dependency_room) in
    let plain = joined (repeated t.durations) (unwrap_or (option_map repeated t.offsets) (replicate n (pos 0))) (flags_from t.sync 1 deps) (spots_of t) in
    groups_length (maps_of n t.groups) plain
    ∙ joined_length (repeated t.durations) (unwrap_or (option_map repeated t.offsets) (replicate n (pos 0))) (flags_from t.sync 1 deps) (spots_of t)
    (durations ∙ sym spots) (offsets ∙ sym spots) (flags ∙ sym spots) ∙ spots

sizes_choice : (v : Bool) (count one : ℕ) (widths bytes : List ℕ) → length (cond v (map first_number (rows (cond v count 0) widths bytes)) (replicate count one)) ≡ count
sizes_choice true count one widths bytes = length-map (rows count widths bytes) first_number ∙ rows_length count widths bytes
sizes_choice false count one widths bytes = length-replicate count one

sizes_counted : (payload : List ℕ) → length (sizes_of payload) ≡ sample_count payload
sizes_counted payload =
    sizes_choice (eqb (field payload 4 4) 0) (sample_count payload) (field payload 4 4) (row stsz (version payload)) (drop (width_of (fields stsz (version payload))) payload)

pub half_length : (n : ℕ) (bytes : List ℕ) → length (half_bytes n bytes) ≡ n
half_length zero bytes = refl
half_length (suc zero) bytes = refl
half_length (suc (suc n)) bytes = ap suc (ap suc (half_length n (drop 1 bytes)))

compact_choice : (v : Bool) (count : ℕ) (widths bytes : List ℕ) → length (cond v (half_bytes count bytes) (map first_number (rows count widths bytes))) ≡ count
compact_choice true count widths bytes = half_length count bytes
compact_choice false count widths bytes = length-map (rows count widths bytes) first_number ∙ rows_length count widths bytes

compact_counted : (payload : List ℕ) → length (compact_sizes_of payload) ≡ sample_count payload
compact_counted payload = compact_choice (eqb (size_bits payload) 4) (sample_count payload) (size_bits payload / 8 ∷ []) (drop 12 payload)

abbrev SizesCounted : List Box → Type 0
SizesCounted boxes = length (sample_sizes_of (payload_if (codes "stsz") boxes) (payload_of (codes "stz2") boxes)) ≡ sample_count (payload_among sample_sizes boxes)

nothing_left : (c : Box) (bs : List Box) (v : Bool) → bytes_eq (codes "stsz") c.kind ≡ v → count_among sample_sizes (c ∷ bs) ≡ 0
    → (count_among sample_sizes bs ≡ 0 → payload_if (codes "stsz") bs ≡ None) → payload_if (codes "stsz") (c ∷ bs) ≡ None
nothing_left c bs true e n h = let k : 1 + count_among sample_sizes bs ≡ 0 = rw e at n in absurd (omega arith)
nothing_left c bs false e n h = rw e (h (omega (arith, n)))

none_there : (bs : List Box) → count_among sample_sizes bs ≡ 0 → payload_if (codes "stsz") bs ≡ None
none_there [] n = refl
none_there (c ∷ bs) n = nothing_left c bs (bytes_eq (codes "stsz") c.kind) refl n (none_there bs)

sizes_step : (c : Box) (bs : List Box) (v w : Bool) → bytes_eq (codes "stsz") c.kind ≡ v → bytes_eq (codes "stz2") c.kind ≡ w → count_among sample_sizes (c ∷ bs) ≤ 1
    → (count_among sample_sizes bs ≤ 1 → SizesCounted bs) → SizesCounted (c ∷ bs)
sizes_step c bs true w e f n h = rw e (sizes_counted c.payload)
sizes_step c bs false true e f n h =
    let k : 1 + count_among sample_sizes bs ≤ 1 = rw (e, f) at n in
    let none = none_there bs (omega arith) in
    rw (e, f, none) (compact_counted c.payload)
sizes_step c bs false false e f n h =
    rw (e, f) (h (omega (arith, n)))

-- the sizes of samples are as many as the one box of sizes counts
pub sizes_are_counted : (bs : List Box) → count_among sample_sizes bs ≤ 1 → SizesCounted bs
sizes_are_counted [] n = compact_counted []
sizes_are_counted (c ∷ bs) n = sizes_step c bs (bytes_eq (codes "stsz") c.kind) (bytes_eq (codes "stz2") c.kind) refl refl n (sizes_are_counted bs)

-- the tables of an `stbl` that fit name as many samples as its one box of sizes counts
pub samples_counted : (s : Surroundings) (boxes : List Box) → count_among sample_sizes boxes ≤ 1 → Fit s (tables_of boxes) → length (plain_samples (tables_of boxes)) ≡ sample_count (payload_among sample_sizes boxes)
samples_counted s boxes n fit = plain_length s (tables_of boxes) fit ∙ sizes_are_counted boxes n
