-- A place among the samples: the sample before which it lies, and the place one sample on.
use Rattle.std.proofs.Common.{◌≡◌, ◌≢◌, ℕ, zero, suc, ◌+◌, ◌-◌, ◌^◌, ◌<◌, ◌≤◌, List, [], ◌∷◌, ◌++◌, length, drop, map, replicate, get_or, slice_index, subst, refl, ap, sym, ◌∙◌, arith, Bool, true, false, Option, Some, None, length-take, length-drop}
use Rattle.std.specs.Prelude.{ℤ, pos, unwrap_or, option_map, nat_lt, nat_le, nat_eq, if◌then◌else◌}
use Rattle.std.specs.List.{AllByRecursion}
use Rattle.std.proofs.lemmas.List.{drop_more, length-replicate, get_or-take, get_or-replicate, length-map, append-nil, drop_all}
use Rattle.byteorder.specs.Endian.{twos_complement}
use Rattle.mp4_tables.specs.format.Repeated.{repeated, total}
use Rattle.mp4_tables.specs.format.Groups.{GroupKey, Groups, keys_after, maps_of}
use Rattle.mp4_tables.specs.format.Tables.{ChunkRow, composition_offset}
use Rattle.mp4_tables.specs.format.PlainSamples.{PlacedSample, Spot, non_sync, flags_from, spots_of, plain_samples, in_chunks, in_chunks_total}
use Rattle.mp4_tables.specs.format.TableRules.{dependency_room, duration_counts, offset_counts, chunk_counts, chunk_order, sync_order, places, lies_within, is_sync_order, is_chunk_order}
use Rattle.mp4_tables.specs.words.Keys.{keys_seen}
use Rattle.mp4_tables.specs.words.Rows.{runs_at, chunk_rows_at, numbers_at, offsets_at, offset_width, sizes_at}
use Rattle.mp4_tables.specs.words.TablesComing.{coming, IsRunPlace, IsRowPlace, next_spot, spots_coming, no_spots, all_lie_within}
use Rattle.mp4_tables.specs.words.Timed.{indexes, timed, samples_of}
use Rattle.mp4_tables.specs.words.Accepted.{offset_version, composition_offsets_at, group_rows, groupings_at, bytes_at, tables_at, AreSmall, HaveOffsets, IsAccepted, offset_rows, offset_values, are_signed, bytes_for, IsSyncPlaceIn, AreInOrder, AreGroupPlaces, IsPlace, flags_here, indexes_here}
use Rattle.mp4_tables.specs.declared.places.RowsAt.{RowsAt}
use Rattle.mp4_tables.specs.declared.places.BytesAt.{BytesAt}
use Rattle.mp4_tables.specs.declared.places.OffsetsAt.{OffsetsAt}
use Rattle.mp4_tables.specs.declared.places.TablesAt.{TablesAt}
use Rattle.mp4_tables.specs.declared.places.RunPlace.{RunPlace}
use Rattle.mp4_tables.specs.declared.places.ChunkPlace.{ChunkPlace}
use Rattle.mp4_tables.specs.declared.places.SyncPlace.{SyncPlace}
use Rattle.mp4_tables.specs.declared.indexes.IndexPlaces.{IndexPlaces}
use Rattle.mp4_tables.specs.declared.places.TablePlace.{TablePlace}
use Rattle.mp4_tables.specs.declared.sample.SampleAt.{SampleAt}
use Rattle.std.specs.List.{slice_get}
use Rattle.std.proofs.Common.{inl, inr}
use Rattle.std.proofs.lemmas.Bool.{cases_lt}
use Rattle.mp4_tables.proofs.Counts.{eqb_is, leb_is, repeated_length, plain_length}
use Rattle.mp4_tables.proofs.RowLists.{runs_length, sizes_length, numbers_length, chunk_rows_length}
use Rattle.mp4_tables.proofs.RunLists.{coming_start}
use Rattle.mp4_tables.proofs.SpotLists.{spot_left, spot_ahead, spot_passed}
use Rattle.mp4_tables.proofs.SyncLists.{not_sync_here}
use Rattle.mp4_tables.proofs.GroupLists.{run_left, run_value, value_has, run_passed, run_first}
use Rattle.mp4_tables.proofs.SampleLists.{placed, flags_more, plain_more, timed_more, timed_next, timed_first, samples_length}
use Rattle.mp4_tables.proofs.IndexLists.{indexes_are}
use Rattle.mp4_boxes.proofs.Plain.{and_is_true, nat_lt_yes}

-- ---- sync samples, where there is a table of them
pub not_sync_in : (payload : List ℕ) (o : Option RowsAt) (p : SyncPlace) (i : ℕ) → IsSyncPlaceIn payload o p i → 0 < i → (r : RowsAt) → o ≡ Some r → p.next ≢ i → 1 ≡ non_sync (option_map (numbers_at 4 payload) o) i
not_sync_in payload None p i at some r e ne = cc
not_sync_in payload (Some rows) p i at some r e ne = ap (λ b. if b then 0 else 1) (sym (not_sync_here (numbers_at 4 payload rows) p i at some ne))

-- ---- bytes of `sdtp`
pub bytes_length : (payload : List ℕ) (o : Option BytesAt) (n k : ℕ) → unwrap_or (option_map (λ (bytes : List ℕ). nat_le n (length bytes)) (option_map (bytes_at payload) o)) true ≡ true → k ≤ n
    → length (bytes_for k (option_map (bytes_at payload) o)) ≡ k
bytes_length payload None n k e h = length-replicate k 0
bytes_length payload (Some at) n k e h = let l : n ≤ length (bytes_at payload at) = leb_is n (length (bytes_at payload at)) e in omega (arith, length-take k (bytes_at payload at))

byte_for : (payload : List ℕ) (o : Option BytesAt) (n k : ℕ) → k < n → slice_index (bytes_for n (option_map (bytes_at payload) o)) k ≡ slice_index (bytes_for (k + 1) (option_map (bytes_at payload) o)) k
byte_for payload None n k h = get_or-replicate n k 0 0 h ∙ sym (get_or-replicate (k + 1) k 0 0 (omega arith))
byte_for payload (Some at) n k h = get_or-take n (bytes_at payload at) k 0 h ∙ sym (get_or-take (k + 1) (bytes_at payload at) k 0 (omega arith))

bytes_more : (payload : List ℕ) (o : Option BytesAt) (n k : ℕ) → unwrap_or (option_map (λ (bytes : List ℕ). nat_le n (length bytes)) (option_map (bytes_at payload) o)) true ≡ true → k < n
    → drop k (bytes_for n (option_map (bytes_at payload) o)) ≡ slice_index (bytes_for (k + 1) (option_map (bytes_at payload) o)) k ∷ drop (k + 1) (bytes_for n (option_map (bytes_at payload) o))
bytes_more payload o n k e h =
    let bytes = bytes_for n (option_map (bytes_at payload) o) in
    let long : length bytes ≡ n = bytes_length payload o n n e (omega arith) in
    drop_more bytes k 0 (omega arith) ∙ ap (λ b. b ∷ drop (k + 1) bytes) (byte_for payload o n k h)

-- ---- composition offsets
mapped : (f : ℕ → ℤ) (n value : ℕ) → map f (replicate n value) ≡ replicate n (f value)
mapped f zero value = refl
mapped f (suc n) value = ap (λ xs. f value ∷ xs) (mapped f n value)

joined_map : (f : ℕ → ℤ) (xs ys : List ℕ) → map f (xs ++ ys) ≡ map f xs ++ map f ys
joined_map f [] ys = refl
joined_map f (x ∷ xs) ys = ap (λ zs. f x ∷ zs) (joined_map f xs ys)

repeated_map : (f : ℕ → ℤ) (runs : List (ℕ × ℕ)) → repeated (map (λ (run : ℕ × ℕ). (run.0, f run.1)) runs) ≡ map f (repeated runs)
repeated_map f [] = refl
repeated_map f (run ∷ runs) =
    let one = sym (mapped f run.0 run.1) in
    let more = repeated_map f runs in
    (λ i. one i ++ more i) ∙ sym (joined_map f (replicate run.0 run.1) (repeated runs))

-- the offsets of the samples are those of the rows, read as the version says
offsets_are : (payload : List ℕ) (o : Option OffsetsAt) (n : ℕ)
    → unwrap_or (option_map repeated (option_map (composition_offsets_at payload) o)) (replicate n (pos 0)) ≡ map (composition_offset (offset_version (are_signed o))) (offset_values payload o n)
offsets_are payload None n = sym (mapped (composition_offset 0) n 0)
offsets_are payload (Some at) n = repeated_map (composition_offset (offset_version at.is_signed)) (runs_at payload at.rows)

drop_map : (f : ℕ → ℤ) (xs : List ℕ) (k : ℕ) → drop k (map f xs) ≡ map f (drop k xs)
drop_map f xs zero = refl
drop_map f [] (suc k) = refl
drop_map f (x ∷ xs) (suc k) = drop_map f xs k

pub values_length : (payload : List ℕ) (o : Option OffsetsAt) (n : ℕ) → unwrap_or (option_map (λ (rows : List (ℕ × ℤ)). nat_eq (total rows) n) (option_map (composition_offsets_at payload) o)) true ≡ true → length (offset_values payload o n) ≡ n
values_length payload None n e = length-replicate n 0
values_length payload (Some at) n e =
    let f = composition_offset (offset_version at.is_signed) in
    let same : length (repeated (composition_offsets_at payload at)) ≡ length (repeated (runs_at payload at.rows)) = ap (λ (xs : List ℤ). length xs) (repeated_map f (runs_at payload at.rows)) ∙ length-map (repeated (runs_at payload at.rows)) f in
    sym same ∙ repeated_length (composition_offsets_at payload at) ∙ eqb_is (total (composition_offsets_at payload at)) n e

-- an offset below 2^31 is the same number in both versions
small_offset : (n : ℕ) → n < 2 ^ 31 → pos n ≡ twos_complement 4 n
small_offset n h = let e : nat_lt n (2 ^ 31) ≡ true = nat_lt_yes n (2 ^ 31) h in rw e refl

pub offset_read : (is_signed : Bool) (n : ℕ) → (is_signed ≡ false → n < 2 ^ 31) → composition_offset (offset_version is_signed) n ≡ twos_complement 4 n
offset_read true n h = refl
offset_read false n h = small_offset n (h refl)

offset_small : (payload : List ℕ) (o : Option OffsetsAt) (p : RunPlace) (n k : ℕ) → HaveOffsets payload o → IsRunPlace (runs_at payload (offset_rows o)) p (drop k (offset_values payload o n)) → 0 < p.left → are_signed o ≡ false → p.value < 2 ^ 31
offset_small payload None p n k h at some e = zeros n k p.value (run_value (runs_at payload (offset_rows None)) p (replicate n 0) k at some)
  where
    zeros : (n k v : ℕ) → slice_index (replicate n 0) k ≡ v → v < 2 ^ 31
    zeros zero zero v e = omega arith
    zeros zero (suc k) v e = omega arith
    zeros (suc n) zero v e = omega arith
    zeros (suc n) (suc k) v e = zeros n k v e
offset_small payload (Some o) p n k h at some e =
    value_has (λ v. v < 2 ^ 31) (runs_at payload o.rows) p k (small o.is_signed e h.1) at some
  where
    small : (b : Bool) → b ≡ false → AreSmall b (runs_at payload o.rows) → AllByRecursion (λ (run : ℕ × ℕ). run.1 < 2 ^ 31) (runs_at payload o.rows)
    small true e h = cc
    small false e h = h

-- ---- the sample before which a place lies

-- as many sizes as there are samples
pub count_is : (payload : List ℕ) (at : TablesAt) → length (tables_at payload at).sizes ≡ at.sizes.rows.count
unfolding tables_at
count_is payload at = sizes_length at.sizes.form payload at.sizes.rows

-- the chunks hold all samples
pub chunks_hold : (payload : List ℕ) (at : TablesAt) → IsAccepted payload at → in_chunks_total (chunk_rows_at payload at.chunk_rows) 1 (offsets_at payload at.chunks) ≡ length (sizes_at payload at.sizes)
unfolding tables_at
chunks_hold payload at ok = eqb_is _ (length (sizes_at payload at.sizes)) (ok.fit chunk_counts)

pub duration_left : (payload : List ℕ) (at : TablesAt) (p : TablePlace) → IsAccepted payload at → IsPlace payload at p → p.number < at.sizes.rows.count → 0 < p.duration.left
unfolding tables_at
duration_left payload at p ok is h =
    let n = sizes_length at.sizes.form payload at.sizes.rows in
    let d = repeated_length (runs_at payload at.durations) ∙ eqb_is (total (runs_at payload at.durations)) (length (sizes_at payload at.sizes)) (ok.fit duration_counts) in
    run_left (runs_at payload at.durations) p.duration (repeated (runs_at payload at.durations)) p.number is.duration (omega arith)

pub offset_left : (payload : List ℕ) (at : TablesAt) (p : TablePlace) → IsAccepted payload at → IsPlace payload at p → p.number < at.sizes.rows.count → 0 < p.offset.left
unfolding tables_at
offset_left payload at p ok is h =
    let n = sizes_length at.sizes.form payload at.sizes.rows in
    let P : ℕ → Type 0 = λ m. unwrap_or (option_map (λ (rows : List (ℕ × ℤ)). nat_eq (total rows) m) (option_map (composition_offsets_at payload) at.offsets)) true ≡ true in
    let d = values_length payload at.offsets at.sizes.rows.count (subst P n (ok.fit offset_counts)) in
    run_left (runs_at payload (offset_rows at.offsets)) p.offset (offset_values payload at.offsets at.sizes.rows.count) p.number is.offset (omega arith)

pub chunk_left : (payload : List ℕ) (at : TablesAt) (p : TablePlace) → IsAccepted payload at → IsPlace payload at p → p.number < at.sizes.rows.count → 0 < p.chunk.left
chunk_left payload at p ok is h =
    let n = sizes_length at.sizes.form payload at.sizes.rows in
    spot_left (chunk_rows_at payload at.chunk_rows) (offsets_at payload at.chunks) (sizes_at payload at.sizes) p.chunk p.number (chunks_hold payload at ok) is.chunk (omega arith)

-- there is a byte for each sample
pub byte_room : (payload : List ℕ) (at : TablesAt) → IsAccepted payload at → (k : ℕ) → k ≤ at.sizes.rows.count → length (bytes_for k (option_map (bytes_at payload) at.dependencies)) ≡ k
unfolding tables_at
byte_room payload at ok k h =
    let n = sizes_length at.sizes.form payload at.sizes.rows in
    bytes_length payload at.dependencies (length (sizes_at payload at.sizes)) k (ok.fit dependency_room) (omega arith)

abbrev pub map_here : List ℕ → TablesAt → TablePlace → Groups
map_here payload at p = get_or (maps_of at.sizes.rows.count (groupings_at payload at.groups)) p.number []

-- that sample, without its time
abbrev pub placed_here : List ℕ → TablesAt → TablePlace → ℕ → PlacedSample
placed_here payload at p size = placed p.duration.value (composition_offset (offset_version (are_signed at.offsets)) p.offset.value) (flags_here payload at p) (next_spot p.chunk size) (map_here payload at p)

values_more : (payload : List ℕ) (o : Option OffsetsAt) (n k : ℕ) (p : RunPlace) → length (offset_values payload o n) ≡ n → k < n → IsRunPlace (runs_at payload (offset_rows o)) p (drop k (offset_values payload o n)) → 0 < p.left
    → drop k (unwrap_or (option_map repeated (option_map (composition_offsets_at payload) o)) (replicate n (pos 0)))
    ≡ composition_offset (offset_version (are_signed o)) p.value ∷ map (composition_offset (offset_version (are_signed o))) (drop (k + 1) (offset_values payload o n))
values_more payload o n k p long h is some =
    let f = composition_offset (offset_version (are_signed o)) in
    let values = offset_values payload o n in
    ap (drop k) (offsets_are payload o n) ∙ drop_map f values k
    ∙ ap (map f) (drop_more values k 0 (omega arith) ∙ ap (λ v. v ∷ drop (k + 1) values) (run_value (runs_at payload (offset_rows o)) p values k is some))

pub plain_here : (payload : List ℕ) (at : TablesAt) (p : TablePlace) (size : ℕ) → IsAccepted payload at → IsPlace payload at p → p.number < at.sizes.rows.count → size ≡ slice_index (sizes_at payload at.sizes) p.number
    → drop p.number (plain_samples (tables_at payload at)) ≡ placed_here payload at p size ∷ drop (p.number + 1) (plain_samples (tables_at payload at))
unfolding tables_at
plain_here payload at p size ok is h e =
    let t = tables_at payload at in
    let k = p.number in
    let c = at.sizes.rows.count in
    let n : length (sizes_at payload at.sizes) ≡ c = sizes_length at.sizes.form payload at.sizes.rows in
    let D = repeated (runs_at payload at.durations) in
    let d = repeated_length (runs_at payload at.durations) ∙ eqb_is (total (runs_at payload at.durations)) (length (sizes_at payload at.sizes)) (ok.fit duration_counts) in
    let e1 : drop k D ≡ p.duration.value ∷ drop (k + 1) D =
    drop_more D k 0 (omega arith) ∙ ap (λ v. v ∷ drop (k + 1) D) (run_value (runs_at payload at.durations) p.duration D k is.duration (duration_left payload at p ok is h)) in
    let P : ℕ → Type 0 = λ m. unwrap_or (option_map (λ (rows : List (ℕ × ℤ)). nat_eq (total rows) m) (option_map (composition_offsets_at payload) at.offsets)) true ≡ true in
    let v = values_length payload at.offsets c (subst P n (ok.fit offset_counts)) in
    let e2 = values_more payload at.offsets c k p.offset v h is.offset (offset_left payload at p ok is h) in
    let B = bytes_for c (option_map (bytes_at payload) at.dependencies) in
    let Q : ℕ → Type 0 = λ m. unwrap_or (option_map (λ (bytes : List ℕ). nat_le m (length bytes)) (option_map (bytes_at payload) at.dependencies)) true ≡ true in
    let e3 = flags_more (option_map (numbers_at 4 payload) at.sync) 1 k B (drop (k + 1) B) (slice_index (bytes_for (k + 1) (option_map (bytes_at payload) at.dependencies)) k) (bytes_more payload at.dependencies c k (subst Q n (ok.fit dependency_room)) h) in
    let e4 = spot_ahead (chunk_rows_at payload at.chunk_rows) (offsets_at payload at.chunks) (sizes_at payload at.sizes) p.chunk k size (chunks_hold payload at ok) is.chunk (omega arith) e in
    let Z : ℕ → Type 0 = λ m. k < m → drop k (unwrap_or (option_map repeated (option_map (composition_offsets_at payload) at.offsets)) (replicate m (pos 0))) ≡ composition_offset (offset_version (are_signed at.offsets)) p.offset.value
    ∷ map (composition_offset (offset_version (are_signed at.offsets))) (drop (k + 1) (offset_values payload at.offsets c))
    → drop k (flags_from (option_map (numbers_at 4 payload) at.sync) 1 (bytes_for m (option_map (bytes_at payload) at.dependencies))) ≡ flags_here payload at p ∷ flags_from (option_map (numbers_at 4 payload) at.sync) (k + 1 + 1) (drop (k + 1) B)
    → drop k (plain_samples t) ≡ placed p.duration.value (composition_offset (offset_version (are_signed at.offsets)) p.offset.value) (flags_here payload at p) (next_spot p.chunk size) (get_or (maps_of m (groupings_at payload at.groups)) k []) ∷ drop (k + 1) (plain_samples t) in
    subst Z n (λ l f2 f3. plain_more t k p.duration.value (composition_offset (offset_version (are_signed at.offsets)) p.offset.value) (flags_here payload at p) (next_spot p.chunk size)
    (drop (k + 1) D) (flags_from (option_map (numbers_at 4 payload) at.sync) (k + 1 + 1) (drop (k + 1) B)) (map (composition_offset (offset_version (are_signed at.offsets))) (drop (k + 1) (offset_values payload at.offsets c))) (drop (k + 1) (spots_of t)) l e1 f2 f3 e4) h e2 e3

abbrev keys_here : List ℕ → TablesAt → List GroupKey
keys_here payload at = keys_after [] (groupings_at payload at.groups)

-- the sample, with its time
pub sample_is : (payload : List ℕ) (at : TablesAt) (p : TablePlace) (cto : ℤ) (flags size : ℕ) (groups : List ℕ) → IsAccepted payload at → IsPlace payload at p → p.number < at.sizes.rows.count
    → cto ≡ twos_complement 4 p.offset.value → flags ≡ flags_here payload at p → size ≡ slice_index (sizes_at payload at.sizes) p.number → groups ≡ indexes_here payload at.groups p.number
    → drop p.number (samples_of (tables_at payload at)) ≡ record { dts = p.dts; duration = p.duration.value; cto = cto; flags = flags; description = p.chunk.row.description; at = p.chunk.at; size = size; groups = groups; number = p.number } ∷ drop (p.number + 1) (samples_of (tables_at payload at))
sample_is payload at p cto flags size groups ok is h is_cto is_flags is_size is_groups =
    let t = tables_at payload at in
    let keys = keys_here payload at in
    let k = p.number in
    let s = placed_here payload at p size in
    let plain = plain_here payload at p size ok is h is_size in
    let first = timed_more t keys k p.dts s is.time plain in
    let behind = timed_next t keys k p.dts s is.time plain in
    let some = offset_left payload at p ok is h in
    let o : composition_offset (offset_version (are_signed at.offsets)) p.offset.value ≡ cto =
    offset_read (are_signed at.offsets) p.offset.value (offset_small payload at.offsets p.offset at.sizes.rows.count k ok.have.offsets is.offset some) ∙ sym is_cto in
    let g : indexes keys (map_here payload at p) ≡ groups =
    indexes_are at.sizes.rows.count k (keys_seen at.groups.keys) (group_rows payload at.groups) h ok.have.groups.distinct ok.have.groups.used (length-map at.groups.rows.by_key (runs_at payload) ∙ ok.have.groups.four) ∙ sym is_groups in
    let f = sym is_flags in
    first ∙ (λ i. record { dts = p.dts; duration = p.duration.value; cto = o i; flags = f i; description = p.chunk.row.description; at = p.chunk.at; size = size; groups = g i; number = p.number } ∷ sym behind i)

-- time goes on by the sample's duration
pub time_passed : (payload : List ℕ) (at : TablesAt) (p : TablePlace) (size : ℕ) → IsAccepted payload at → IsPlace payload at p → p.number < at.sizes.rows.count → size ≡ slice_index (sizes_at payload at.sizes) p.number
    → drop (p.number + 1) (samples_of (tables_at payload at)) ≡ timed (keys_after [] (groupings_at payload at.groups)) (p.number + 1) (p.dts + p.duration.value) (drop (p.number + 1) (plain_samples (tables_at payload at)))
time_passed payload at p size ok is h e =
    timed_next (tables_at payload at) (keys_here payload at) p.number p.dts (placed_here payload at p size) is.time (plain_here payload at p size ok is h e)

pub time_first : (payload : List ℕ) (at : TablesAt) → drop 0 (samples_of (tables_at payload at)) ≡ timed (keys_after [] (groupings_at payload at.groups)) 0 0 (drop 0 (plain_samples (tables_at payload at)))
unfolding tables_at
time_first payload at = timed_first (tables_at payload at)

-- the end of the next sample is a number of 64 bits
pub end_fits : (payload : List ℕ) (at : TablesAt) (p : TablePlace) (size : ℕ) → IsAccepted payload at → IsPlace payload at p → p.number < at.sizes.rows.count → size ≡ slice_index (sizes_at payload at.sizes) p.number → p.chunk.at + size < 2 ^ 64
unfolding tables_at
end_fits payload at p size ok is h e =
    let n = sizes_length at.sizes.form payload at.sizes.rows in
    let fine = leb_is (p.chunk.at + size) ok.surroundings.file_length
    (all_next ok.surroundings.file_length p.number (in_chunks (chunk_rows_at payload at.chunk_rows) 1 (offsets_at payload at.chunks) (sizes_at payload at.sizes)) (drop (p.number + 1) (in_chunks (chunk_rows_at payload at.chunk_rows) 1 (offsets_at payload at.chunks) (sizes_at payload at.sizes)))
    (next_spot p.chunk size) (ok.fit places)
    (spot_ahead (chunk_rows_at payload at.chunk_rows) (offsets_at payload at.chunks) (sizes_at payload at.sizes) p.chunk p.number size (chunks_hold payload at ok) is.chunk (omega arith) e)) in
    let small = ok.small in
    omega arith
  where
    all_next : (file k : ℕ) (spots more : List Spot) (s : Spot) → all_lie_within file spots ≡ true → drop k spots ≡ s ∷ more → lies_within file s.at s.size ≡ true
    all_next file zero [] more s e f = cc
    all_next file zero (x ∷ spots) more s e f = let g : x ≡ s = cc in ap (λ (y : Spot). lies_within file y.at y.size) (sym g) ∙ (and_is_true (lies_within file x.at x.size) (all_lie_within file spots) e).0
    all_next file (suc k) [] more s e f = cc
    all_next file (suc k) (x ∷ spots) more s e f = all_next file k spots more s (and_is_true (lies_within file x.at x.size) (all_lie_within file spots) e).1 f

-- ---- the place one sample on
pub duration_within : (payload : List ℕ) (at : TablesAt) (p : TablePlace) → IsPlace payload at p → p.duration.row ≤ at.durations.count
duration_within payload at p is = let n = runs_length payload at.durations in let h = is.duration.within in omega arith

pub offset_within : (payload : List ℕ) (at : TablesAt) (p : TablePlace) (rows : RowsAt) → IsPlace payload at p → rows ≡ offset_rows at.offsets → p.offset.row ≤ rows.count
offset_within payload at p rows is e = let n = runs_length payload (offset_rows at.offsets) in let h = is.offset.within in let f = ap (λ (r : RowsAt). r.count) e in omega arith

pub place_passed : (payload : List ℕ) (at : TablesAt) (p : TablePlace) (size : ℕ) (rows : RowsAt) (duration offset : RunPlace) (chunk : ChunkPlace) (sync : SyncPlace) (groups : IndexPlaces)
    → IsAccepted payload at → IsPlace payload at p → p.number < at.sizes.rows.count → size ≡ slice_index (sizes_at payload at.sizes) p.number → p.duration.value < 2 ^ 32 → rows ≡ offset_rows at.offsets
    → coming (runs_at payload at.durations) p.duration ≡ p.duration.value ∷ coming (runs_at payload at.durations) duration → (duration.left ≡ 0 → coming (runs_at payload at.durations) duration ≡ []) → duration.row ≤ at.durations.count
    → coming (runs_at payload rows) p.offset ≡ p.offset.value ∷ coming (runs_at payload rows) offset → (offset.left ≡ 0 → coming (runs_at payload rows) offset ≡ []) → offset.row ≤ rows.count
    → ((later : List ℕ) → spots_coming (chunk_rows_at payload at.chunk_rows) (offsets_at payload at.chunks) p.chunk (size ∷ later) ≡ next_spot p.chunk size ∷ spots_coming (chunk_rows_at payload at.chunk_rows) (offsets_at payload at.chunks) chunk later)
    → (chunk.left ≡ 0 → spots_coming (chunk_rows_at payload at.chunk_rows) (offsets_at payload at.chunks) chunk ≡ no_spots)
    → (chunk.opened < at.chunks.rows.count → IsRowPlace (chunk_rows_at payload at.chunk_rows) chunk.opened chunk.row) → chunk.opened ≤ at.chunks.rows.count → chunk.row.row ≤ at.chunk_rows.count
    → IsSyncPlaceIn payload at.sync sync (p.number + 1 + 1) → AreGroupPlaces payload at.groups groups (p.number + 1)
    → IsPlace payload at (record { number = p.number + 1; dts = p.dts + p.duration.value; duration = duration; offset = offset; chunk = chunk; sync = sync; groups = groups })
place_passed payload at p size rows duration offset chunk sync groups ok is h e small same d1 d2 d3 o1 o2 o3 next settled row opened passed s g =
    let n = sizes_length at.sizes.form payload at.sizes.rows in
    let m = numbers_length (offset_width at.chunks.is_wide) payload at.chunks.rows in
    let k = chunk_rows_length payload at.chunk_rows in
    let early = is.early in
    let P : RowsAt → Type 0 = λ r. IsRunPlace (runs_at payload r) p.offset (drop p.number (offset_values payload at.offsets at.sizes.rows.count)) in
    let Q : RowsAt → Type 0 = λ r. IsRunPlace (runs_at payload r) offset (drop (p.number + 1) (offset_values payload at.offsets at.sizes.rows.count)) in
    record {
      within = omega arith;
      time = time_passed payload at p size ok is h e;
      early = omega arith;
      duration = run_passed payload at.durations p.duration duration (repeated (runs_at payload at.durations)) p.number is.duration d1 d2 d3;
      offset = subst Q same (run_passed payload rows p.offset offset (offset_values payload at.offsets at.sizes.rows.count) p.number (subst P (sym same) is.offset) o1 o2 o3);
      chunk = spot_passed (chunk_rows_at payload at.chunk_rows) (offsets_at payload at.chunks) (sizes_at payload at.sizes) p.chunk chunk p.number size is.chunk (omega arith) e next settled (λ l. row (omega arith)) (omega arith) (omega arith);
      sync = s;
      groups = g;
    }

-- ---- the first place
no_runs : (payload : List ℕ) → runs_at payload (offset_rows None) ≡ []
unfolding runs_at
no_runs payload = refl

pub offset_first : (payload : List ℕ) (o : Option OffsetsAt) (n : ℕ) → o ≡ None → IsRunPlace (runs_at payload (offset_rows o)) (record { row = 0; left = n; value = 0 }) (offset_values payload o n)
offset_first payload None n e =
    let rest : coming (runs_at payload (offset_rows None)) (record { row = 0; left = n; value = 0 }) ≡ replicate n 0 = coming_start (runs_at payload (offset_rows None)) n 0 ∙ ap (λ rs. replicate n 0 ++ repeated rs) (no_runs payload) ∙ append-nil (replicate n 0) in
    record {
      rest = rest;
      settled = λ z. ap (λ k. replicate k 0) z;
      within = omega arith;
    }
offset_first payload (Some at) n e = cc

pub offset_some : (payload : List ℕ) (o : Option OffsetsAt) (n : ℕ) (at : OffsetsAt) (p : RunPlace) → o ≡ Some at → coming (runs_at payload at.rows) p ≡ coming (runs_at payload at.rows) (record { row = 0; left = 0; value = 0 })
    → (p.left ≡ 0 → coming (runs_at payload at.rows) p ≡ []) → p.row ≤ at.rows.count → IsRunPlace (runs_at payload (offset_rows o)) p (offset_values payload o n)
offset_some payload o n at p e same settled within =
    subst (λ (x : Option OffsetsAt). IsRunPlace (runs_at payload (offset_rows x)) p (offset_values payload x n)) (sym e) (run_first payload at.rows p same settled within)

-- `stss` is in order, and so is `stsc`
pub sync_ordered : (payload : List ℕ) (at : TablesAt) → IsAccepted payload at → AreInOrder payload at.sync at.sizes.rows.count
unfolding tables_at
sync_ordered payload at ok = of at.sync (subst P (sizes_length at.sizes.form payload at.sizes.rows) (ok.fit sync_order))
  where
    P : ℕ → Type 0
    P n = unwrap_or (option_map (is_sync_order n) (option_map (numbers_at 4 payload) at.sync)) true ≡ true

    of : (o : Option RowsAt) → unwrap_or (option_map (is_sync_order at.sizes.rows.count) (option_map (numbers_at 4 payload) o)) true ≡ true → AreInOrder payload o at.sizes.rows.count
    of None e = tt
    of (Some rows) e = e

pub chunks_ordered : (payload : List ℕ) (at : TablesAt) → IsAccepted payload at → is_chunk_order (map (λ (row : ChunkRow). row.first) (chunk_rows_at payload at.chunk_rows)) (nat_lt 0 at.chunks.rows.count) ≡ true
unfolding tables_at
chunks_ordered payload at ok =
    let n = numbers_length (offset_width at.chunks.is_wide) payload at.chunks.rows in
    subst (λ m. is_chunk_order (map (λ (row : ChunkRow). row.first) (chunk_rows_at payload at.chunk_rows)) (nat_lt 0 m) ≡ true) n (ok.fit chunk_order)

-- ---- how many samples are to come
pub all_samples : (payload : List ℕ) (at : TablesAt) → IsAccepted payload at → length (samples_of (tables_at payload at)) ≡ length (tables_at payload at).sizes
all_samples payload at ok = samples_length (tables_at payload at) ∙ plain_length ok.surroundings (tables_at payload at) ok.fit

pub samples_left : (payload : List ℕ) (at : TablesAt) (k : ℕ) → IsAccepted payload at → length (drop k (samples_of (tables_at payload at))) ≡ length (tables_at payload at).sizes - k
samples_left payload at k ok = let n = all_samples payload at ok in omega (arith, length-drop k (samples_of (tables_at payload at)))

pub none_left : (payload : List ℕ) (at : TablesAt) (k : ℕ) → IsAccepted payload at → at.sizes.rows.count ≤ k → drop k (samples_of (tables_at payload at)) ≡ []
none_left payload at k ok h = let n = all_samples payload at ok in let m = count_is payload at in drop_all k (samples_of (tables_at payload at)) (omega arith)

-- a sample is to come, so there is one
pub some_left : (payload : List ℕ) (at : TablesAt) (k : ℕ) (s : SampleAt) → IsAccepted payload at → slice_get (drop k (samples_of (tables_at payload at))) 0 ≡ Some s → k < at.sizes.rows.count
some_left payload at k s ok e = elim (cases_lt k at.sizes.rows.count) [
  | inl inside ↦ inside
  | inr behind ↦ absurd (not_first (sym e ∙ ap (λ (l : List SampleAt). slice_get l 0) (none_left payload at k ok behind)))
]
  where
    not_first : {s : SampleAt} → Some s ≡ None → ⊥
    not_first e = cc

-- the next sample has the size that stands in the table
pub size_here : (payload : List ℕ) (at : TablesAt) (p : TablePlace) (s : SampleAt) → IsAccepted payload at → IsPlace payload at p → slice_get (drop p.number (samples_of (tables_at payload at))) 0 ≡ Some s
    → s.size ≡ slice_index (sizes_at payload at.sizes) p.number
size_here payload at p s ok is e =
    let size = slice_index (sizes_at payload at.sizes) p.number in
    let h = some_left payload at p.number s ok e in
    let first = timed_more (tables_at payload at) (keys_here payload at) p.number p.dts (placed_here payload at p size) is.time (plain_here payload at p size ok is h refl) in
    same_first _ _ _ s first e
  where
    same_first : (xs ys : List SampleAt) (x s : SampleAt) → xs ≡ x ∷ ys → slice_get xs 0 ≡ Some s → s.size ≡ x.size
    same_first [] ys x s e f = cc
    same_first (y ∷ xs) ys x s e f = cc
