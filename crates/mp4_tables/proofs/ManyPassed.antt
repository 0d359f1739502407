-- Samples that are no sync samples, passed many at once: chunk by chunk, and row by row.
use Rattle.std.proofs.Common.{◌≡◌, ◌≢◌, ℕ, zero, suc, ◌+◌, ◌-◌, ◌^◌, ◌<◌, ◌≤◌, List, [], ◌∷◌, length, drop, slice_index, Some, true, false, refl, ap, sym, subst, ◌∙◌, arith}
use Rattle.std.specs.Prelude.{option_map, ℤ, nat_eq, unwrap_or}
use Rattle.std.specs.List.{AllByRecursion}
use Rattle.std.proofs.lemmas.List.{drop-drop, length-drop}
use Rattle.mp4_boxes.specs.format.Bytes.{AreBytes, rows}
use Rattle.mp4_boxes.proofs.Each.{each_value}
use Rattle.mp4_boxes.proofs.OfBytes.{FitsRow, rows_fit, bytes_dropped}
use Rattle.mp4_tables.specs.format.Repeated.{repeated, total}
use Rattle.mp4_tables.specs.format.TableRules.{duration_counts, offset_counts}
use Rattle.mp4_tables.specs.words.Next.{PassesNonSync}
use Rattle.mp4_tables.specs.words.Rows.{run_of, runs_at, chunk_rows_at, offsets_at, sizes_at}
use Rattle.mp4_tables.specs.words.TablesComing.{coming, IsRunPlace, spots_coming, no_spots, next_spot}
use Rattle.mp4_tables.specs.words.ChunkPlaces.{LiesInChunks}
use Rattle.mp4_tables.specs.words.Timed.{samples_of}
use Rattle.mp4_tables.specs.words.Accepted.{IsAccepted, IsPlace, composition_offsets_at, offset_rows, offset_values, tables_at}
use Rattle.mp4_tables.specs.declared.places.RowsAt.{RowsAt}
use Rattle.mp4_tables.specs.declared.places.RunPlace.{RunPlace}
use Rattle.mp4_tables.specs.declared.places.ChunkPlace.{ChunkPlace}
use Rattle.mp4_tables.specs.declared.places.TablesAt.{TablesAt}
use Rattle.mp4_tables.specs.declared.places.TablePlace.{TablePlace}
use Rattle.mp4_tables.proofs.Counts.{eqb_is, repeated_length}
use Rattle.mp4_tables.proofs.ChunkLists.{spots_first}
use Rattle.mp4_tables.proofs.GroupLists.{value_has}
use Rattle.mp4_tables.proofs.GroupsHere.{groups_next}
use Rattle.mp4_tables.proofs.IndexesLeft.{over_next}
use Rattle.mp4_tables.proofs.NonSyncPassed.{non_sync_next, passes_one, sync_kept_in}
use Rattle.mp4_tables.proofs.PlaceLists.{chunk_left, duration_left, end_fits, offset_left, place_passed, values_length}
use Rattle.mp4_tables.proofs.RowLists.{runs_length, sizes_length, sizes_more}
use Rattle.mp4_tables.proofs.RunsPassed.{sum_first, sum_next, one_on, run_on}
use Rattle.mp4_tables.proofs.SpotLists.{lies_in_chunks}

-- the values of rows that bytes say are below 2^32
runs_small : (payload : List ℕ) (at : RowsAt) → AreBytes payload → AllByRecursion (λ (run : ℕ × ℕ). run.1 < 2 ^ 32) (runs_at payload at)
unfolding runs_at
runs_small payload at h =
    each_value (FitsRow (4 ∷ 4 ∷ [])) (λ (run : ℕ × ℕ). run.1 < 2 ^ 32) run_of (λ r k. k 1) (rows at.count (4 ∷ 4 ∷ []) (drop at.place payload))
    (rows_fit at.count (4 ∷ 4 ∷ []) (drop at.place payload) (bytes_dropped at.place payload h))

-- behind a place come so many samples before the next sync sample, and no index is left
pub record MayPass (payload : List ℕ) (at : TablesAt) (p : TablePlace) (few : ℕ) : Type 0 where
  pub ok : IsAccepted payload at
  pub bytes : AreBytes payload
  pub rows : RowsAt
  pub sync : at.sync ≡ Some rows
  pub over : p.groups.are_left ≡ false
  pub inside : p.number + few ≤ at.sizes.rows.count
  pub before : p.number < p.sync.next → p.number + few < p.sync.next

-- so it is where no more are to be passed than come before the next number of `stss`
pub may_pass : (payload : List ℕ) (at : TablesAt) (p : TablePlace) (rows : RowsAt) (come few : ℕ) → IsAccepted payload at → AreBytes payload → at.sync ≡ Some rows → p.groups.are_left ≡ false
    → p.number + come ≤ at.sizes.rows.count → (p.number < p.sync.next → p.number + come < p.sync.next) → few ≤ come → MayPass payload at p few
may_pass payload at p rows come few ok bytes sync over inside before h = record {
  ok = ok;
  bytes = bytes;
  rows = rows;
  sync = sync;
  over = over;
  inside = omega (arith, inside, h);
  before = λ l. let b = before l in omega (arith, b, h);
}

not_next : (number next few n : ℕ) → (number < next → number + few < next) → n < few → next ≢ number + n + 1
not_next number next few n before h e = let later = before (omega (arith, e)) in omega (arith, later, h, e)

-- how long the first samples behind a place last
abbrev pub lasting : List ℕ → TablesAt → TablePlace → ℕ → ℕ
lasting payload at p n = sum_first n (drop p.number (repeated (runs_at payload at.durations)))

-- how many bytes the samples from a number on have
abbrev pub bytes_from : List ℕ → TablesAt → ℕ → ℕ → ℕ
bytes_from payload at k n = sum_first n (drop k (sizes_at payload at.sizes))

-- the place that lies so many samples behind another, in this chunk: these are no sync samples and have this description
pub record AreOn (payload : List ℕ) (at : TablesAt) (description : ℕ) (p : TablePlace) (chunk : ChunkPlace) (n : ℕ) : Type 0 where
  pub duration : RunPlace
  pub offset : RunPlace
  pub place : IsPlace payload at (record { number = p.number + n; dts = p.dts + lasting payload at p n; duration = duration; offset = offset; chunk = chunk; sync = p.sync; groups = p.groups })
  pub passed : PassesNonSync description n (drop p.number (samples_of (tables_at payload at))) (drop (p.number + n) (samples_of (tables_at payload at)))

-- one more sample is passed
next_on : (payload : List ℕ) (at : TablesAt) (description : ℕ) (p : TablePlace) (few : ℕ) (chunk q : ChunkPlace) (n : ℕ) → MayPass payload at p few → AreOn payload at description p chunk n → n < few → chunk.row.description ≡ description
    → ((later : List ℕ) → spots_coming (chunk_rows_at payload at.chunk_rows) (offsets_at payload at.chunks) chunk (slice_index (sizes_at payload at.sizes) (p.number + n) ∷ later)
    ≡ next_spot chunk (slice_index (sizes_at payload at.sizes) (p.number + n)) ∷ spots_coming (chunk_rows_at payload at.chunk_rows) (offsets_at payload at.chunks) q later)
    → (q.left ≡ 0 → spots_coming (chunk_rows_at payload at.chunk_rows) (offsets_at payload at.chunks) q ≡ no_spots)
    → LiesInChunks payload at.chunk_rows at.chunks q → AreOn payload at description p q (n + 1)
next_on payload at description p few chunk q n m a h is_described next settled lies =
    let here : TablePlace = record { number = p.number + n; dts = p.dts + lasting payload at p n; duration = a.duration; offset = a.offset; chunk = chunk; sync = p.sync; groups = p.groups } in
    let all = m.inside in
    let inside : here.number < at.sizes.rows.count = omega (arith, all, h) in
    let size = slice_index (sizes_at payload at.sizes) (p.number + n) in
    let runs = runs_at payload at.durations in
    let left = duration_left payload at here m.ok a.place inside in
    let d = one_on runs a.duration left a.place.duration.within in
    let o = one_on (runs_at payload (offset_rows at.offsets)) a.offset (offset_left payload at here m.ok a.place inside) a.place.offset.within in
    let d_rows = runs_length payload at.durations in
    let o_rows = runs_length payload (offset_rows at.offsets) in
    let d_within = d.within in
    let o_within = o.within in
    let small = value_has (λ v. v < 2 ^ 32) runs a.duration (p.number + n) (runs_small payload at.durations m.bytes) a.place.duration left in
    let ne = not_next p.number p.sync.next few n m.before h in
    let s = non_sync_next payload at here m.rows m.ok a.place inside m.sync ne in
    let behind = place_passed payload at here size (offset_rows at.offsets) d.place o.place q p.sync p.groups m.ok a.place inside refl small refl
    d.rest d.settled (omega (arith, d_rows, d_within)) o.rest o.settled (omega (arith, o_rows, o_within)) next settled lies.at lies.opened lies.passed
    (sync_kept_in payload at.sync p.sync (p.number + n + 1) a.place.sync (omega arith) ne)
    (groups_next payload at.groups p.groups p.groups (p.number + n) a.place.groups a.place.groups.places (over_next payload at.groups.rows p.groups a.place.groups.places m.over)) in
    let number : p.number + n + 1 ≡ p.number + (n + 1) = omega arith in
    let values = repeated runs in
    let sum = sum_next n a.duration.value (drop p.number values) (coming runs d.place) (drop-drop n p.number values ∙ sym a.place.duration.rest ∙ d.rest) in
    let time : p.dts + lasting payload at p n + a.duration.value ≡ p.dts + lasting payload at p (n + 1) = omega (arith, sum) in
    let samples = samples_of (tables_at payload at) in
    record {
      duration = d.place;
      offset = o.place;
      place = subst (λ (k : ℕ). IsPlace payload at (record { number = k; dts = p.dts + lasting payload at p (n + 1); duration = d.place; offset = o.place; chunk = q; sync = p.sync; groups = p.groups })) number
          (subst (λ (t : ℕ). IsPlace payload at (record { number = p.number + n + 1; dts = t; duration = d.place; offset = o.place; chunk = q; sync = p.sync; groups = p.groups })) time behind);
      passed = subst (λ (k : ℕ). PassesNonSync description (n + 1) (drop p.number samples) (drop k samples)) number
          (passes_one description n (drop p.number samples) (drop (p.number + n) samples) (drop (p.number + n + 1) samples) s.next a.passed s.first (s.is.0, s.is.1 ∙ is_described));
    }

-- a chunk of which so many samples with so many bytes are passed
abbrev pub chunk_on : ChunkPlace → ℕ → ℕ → ChunkPlace
chunk_on chunk n bytes = record chunk { left = chunk.left - n; at = chunk.at + bytes }

-- the bytes of one more
bytes_next : (payload : List ℕ) (at : TablesAt) (k n : ℕ) → k + n < at.sizes.rows.count → bytes_from payload at k (suc n) ≡ bytes_from payload at k n + slice_index (sizes_at payload at.sizes) (k + n)
bytes_next payload at k n h =
    let sizes = sizes_at payload at.sizes in
    let one : n + 1 ≡ suc n = omega arith in
    let s = sum_next n (slice_index sizes (k + n)) (drop k sizes) (drop (k + n + 1) sizes) (drop-drop n k sizes ∙ sizes_more at.sizes.form payload at.sizes.rows (k + n) h) in
    let e = ap (λ m. sum_first m (drop k sizes)) one in
    omega (arith, s, e)

-- one more of the chunk is passed, and the place behind it is one to which the chunk goes on
more_on : (payload : List ℕ) (at : TablesAt) (description : ℕ) (p : TablePlace) (few : ℕ) (chunk q : ChunkPlace) (n m : ℕ) → MayPass payload at p few → n + m < few → m < chunk.left → chunk.row.description ≡ description
    → AreOn payload at description p (chunk_on chunk m (bytes_from payload at (p.number + n) m)) (n + m)
    → spots_coming (chunk_rows_at payload at.chunk_rows) (offsets_at payload at.chunks) q
    ≡ spots_coming (chunk_rows_at payload at.chunk_rows) (offsets_at payload at.chunks) (chunk_on chunk (suc m) (bytes_from payload at (p.number + n) (suc m)))
    → (q.left ≡ 0 → spots_coming (chunk_rows_at payload at.chunk_rows) (offsets_at payload at.chunks) q ≡ no_spots)
    → LiesInChunks payload at.chunk_rows at.chunks q → AreOn payload at description p q (n + suc m)
more_on payload at description p few chunk q n m may h left is_described a same settled lies =
    let R = chunk_rows_at payload at.chunk_rows in
    let O = offsets_at payload at.chunks in
    let all = may.inside in
    let k : p.number + n + m ≡ p.number + (n + m) = omega arith in
    let sizes = sizes_at payload at.sizes in
    let size = slice_index sizes (p.number + (n + m)) in
    let here = chunk_on chunk m (bytes_from payload at (p.number + n) m) in
    let more = bytes_next payload at (p.number + n) m (omega (arith, all, h)) in
    let same_size = ap (λ j. slice_index sizes j) k in
    let e1 : here.left - 1 ≡ chunk.left - suc m = omega arith in
    let e2 : here.at + size ≡ chunk.at + bytes_from payload at (p.number + n) (suc m) = omega (arith, more, same_size) in
    let there : spots_coming R O (record here { left = here.left - 1; at = here.at + size }) ≡ spots_coming R O q = (λ i. spots_coming R O (record here { left = e1 i; at = e2 i })) ∙ sym same in
    let one : n + m + 1 ≡ n + suc m = omega arith in
    subst (λ (j : ℕ). AreOn payload at description p q j) one
    (next_on payload at description p few here q (n + m) may a h is_described (λ later. spots_first R O here size later (omega (arith, left)) ∙ ap (λ f. next_spot here size ∷ f later) there) settled lies)

-- some of the chunk are passed, but not all
some_on : (payload : List ℕ) (at : TablesAt) (description : ℕ) (p : TablePlace) (few : ℕ) (chunk : ChunkPlace) (n m : ℕ) → MayPass payload at p few → n + m ≤ few → m < chunk.left → chunk.row.description ≡ description
    → AreOn payload at description p chunk n → AreOn payload at description p (chunk_on chunk m (bytes_from payload at (p.number + n) m)) (n + m)
some_on payload at description p few chunk n zero may h left is_described a =
    let e1 : chunk.left ≡ chunk.left - 0 = omega arith in
    let e2 : chunk.at ≡ chunk.at + bytes_from payload at (p.number + n) 0 = omega arith in
    let e3 : n ≡ n + 0 = omega arith in
    subst (λ (k : ℕ). AreOn payload at description p (chunk_on chunk 0 (bytes_from payload at (p.number + n) 0)) k) e3
    (subst (λ (k : ℕ). AreOn payload at description p (record chunk { left = k; at = chunk.at + bytes_from payload at (p.number + n) 0 }) n) e1
    (subst (λ (k : ℕ). AreOn payload at description p (record chunk { at = k }) n) e2 a))
some_on payload at description p few chunk n (suc m) may h left is_described a =
    let was = some_on payload at description p few chunk n m may (omega (arith, h)) (omega (arith, left)) is_described a in
    let lies = lies_in_chunks payload at.chunk_rows at.chunks (sizes_at payload at.sizes) chunk (p.number + n) a.place.chunk in
    more_on payload at description p few chunk (chunk_on chunk (suc m) (bytes_from payload at (p.number + n) (suc m))) n m may (omega (arith, h)) (omega (arith, left)) is_described was refl (λ z. absurd (omega (arith, z, left)))
    (record { at = lies.at; opened = lies.opened; passed = lies.passed })

-- some are passed, and the place behind them is one to which the chunk goes on
pub samples_on : (payload : List ℕ) (at : TablesAt) (description : ℕ) (p : TablePlace) (few : ℕ) (chunk q : ChunkPlace) (n m : ℕ) → MayPass payload at p few → n + m ≤ few → 0 < m → m ≤ chunk.left → chunk.row.description ≡ description
    → AreOn payload at description p chunk n
    → spots_coming (chunk_rows_at payload at.chunk_rows) (offsets_at payload at.chunks) q
    ≡ spots_coming (chunk_rows_at payload at.chunk_rows) (offsets_at payload at.chunks) (chunk_on chunk m (bytes_from payload at (p.number + n) m))
    → (q.left ≡ 0 → spots_coming (chunk_rows_at payload at.chunk_rows) (offsets_at payload at.chunks) q ≡ no_spots)
    → LiesInChunks payload at.chunk_rows at.chunks q → AreOn payload at description p q (n + m)
samples_on payload at description p few chunk q n zero may h some left is_described a same settled lies = absurd (omega (arith, some))
samples_on payload at description p few chunk q n (suc m) may h some left is_described a same settled lies =
    more_on payload at description p few chunk q n m may (omega (arith, h)) (omega (arith, left)) is_described
    (some_on payload at description p few chunk n m may (omega (arith, h)) (omega (arith, left)) is_described a) same settled lies

-- their end is a number of 64 bits
pub ends_fit : (payload : List ℕ) (at : TablesAt) (description : ℕ) (p : TablePlace) (few : ℕ) (chunk : ChunkPlace) (n m : ℕ) → MayPass payload at p few → n + m ≤ few → 0 < m → m ≤ chunk.left → chunk.row.description ≡ description
    → AreOn payload at description p chunk n → chunk.at + bytes_from payload at (p.number + n) m < 2 ^ 64
ends_fit payload at description p few chunk n zero may h some left is_described a = absurd (omega (arith, some))
ends_fit payload at description p few chunk n (suc m) may h some left is_described a =
    let was = some_on payload at description p few chunk n m may (omega (arith, h)) (omega (arith, left)) is_described a in
    let all = may.inside in
    let k : p.number + n + m ≡ p.number + (n + m) = omega arith in
    let sizes = sizes_at payload at.sizes in
    let here : TablePlace = record { number = p.number + (n + m); dts = p.dts + lasting payload at p (n + m); duration = was.duration; offset = was.offset; chunk = chunk_on chunk m (bytes_from payload at (p.number + n) m); sync = p.sync; groups = p.groups } in
    let fits = end_fits payload at here (slice_index sizes (p.number + (n + m))) may.ok was.place (omega (arith, all, h)) refl in
    let more = bytes_next payload at (p.number + n) m (omega (arith, all, h)) in
    let same_size = ap (λ j. slice_index sizes j) k in
    omega (arith, fits, more, same_size)

-- a sample of the chunk is left where one may be passed
pub some_left_on : (payload : List ℕ) (at : TablesAt) (description : ℕ) (p : TablePlace) (few : ℕ) (chunk : ChunkPlace) (n : ℕ) → MayPass payload at p few → n < few → AreOn payload at description p chunk n → 0 < chunk.left
some_left_on payload at description p few chunk n may h a =
    let all = may.inside in
    let here : TablePlace = record { number = p.number + n; dts = p.dts + lasting payload at p n; duration = a.duration; offset = a.offset; chunk = chunk; sync = p.sync; groups = p.groups } in
    chunk_left payload at here may.ok a.place (omega (arith, all, h))

-- ---- so many values are to come

pub durations_come : (payload : List ℕ) (at : TablesAt) (p : TablePlace) (n : ℕ) → IsAccepted payload at → IsPlace payload at p → p.number + n ≤ at.sizes.rows.count → n ≤ length (coming (runs_at payload at.durations) p.duration)
unfolding tables_at
durations_come payload at p n ok is h =
    let all = sizes_length at.sizes.form payload at.sizes.rows in
    let values = repeated (runs_at payload at.durations) in
    let d = repeated_length (runs_at payload at.durations) ∙ eqb_is (total (runs_at payload at.durations)) (length (sizes_at payload at.sizes)) (ok.fit duration_counts) in
    let e = ap (λ (xs : List ℕ). length xs) is.duration.rest in
    omega (arith, all, d, e, h, length-drop p.number values)

pub offsets_come : (payload : List ℕ) (at : TablesAt) (rs : RowsAt) (p : TablePlace) (n : ℕ) → IsAccepted payload at → IsPlace payload at p → p.number + n ≤ at.sizes.rows.count → rs ≡ offset_rows at.offsets → n ≤ length (coming (runs_at payload rs) p.offset)
unfolding tables_at
offsets_come payload at rs p n ok is h same =
    let all = sizes_length at.sizes.form payload at.sizes.rows in
    let values = offset_values payload at.offsets at.sizes.rows.count in
    let P : ℕ → Type 0 = λ m. unwrap_or (option_map (λ (rows : List (ℕ × ℤ)). nat_eq (total rows) m) (option_map (composition_offsets_at payload) at.offsets)) true ≡ true in
    let d = values_length payload at.offsets at.sizes.rows.count (subst P all (ok.fit offset_counts)) in
    let e = ap (λ (xs : List ℕ). length xs) (ap (λ (r : RowsAt). coming (runs_at payload r) p.offset) same ∙ is.offset.rest) in
    omega (arith, d, e, h, length-drop p.number values)

-- ---- the place behind them

pub placed_on : (payload : List ℕ) (at : TablesAt) (description : ℕ) (p : TablePlace) (n sum : ℕ) (rs : RowsAt) (duration offset : RunPlace) (chunk : ChunkPlace) → AreOn payload at description p chunk n → IsPlace payload at p
    → rs ≡ offset_rows at.offsets → sum ≡ sum_first n (coming (runs_at payload at.durations) p.duration)
    → coming (runs_at payload at.durations) duration ≡ drop n (coming (runs_at payload at.durations) p.duration) → (duration.left ≡ 0 → coming (runs_at payload at.durations) duration ≡ []) → duration.row ≤ at.durations.count
    → coming (runs_at payload rs) offset ≡ drop n (coming (runs_at payload rs) p.offset) → (offset.left ≡ 0 → coming (runs_at payload rs) offset ≡ []) → offset.row ≤ rs.count
    → IsPlace payload at (record p { number = p.number + n; dts = p.dts + sum; duration = duration; offset = offset; chunk = chunk })
placed_on payload at description p n sum rs duration offset chunk a is same lasts d1 d2 d3 o1 o2 o3 =
    let values = repeated (runs_at payload at.durations) in
    let offsets = offset_values payload at.offsets at.sizes.rows.count in
    let P : RowsAt → Type 0 = λ r. IsRunPlace (runs_at payload r) p.offset (drop p.number offsets) in
    let Q : RowsAt → Type 0 = λ r. IsRunPlace (runs_at payload r) offset (drop (p.number + n) offsets) in
    let time : p.dts + lasting payload at p n ≡ p.dts + sum = (let e = ap (sum_first n) is.duration.rest in omega (arith, lasts, e)) in
    subst (λ (t : ℕ). IsPlace payload at (record p { number = p.number + n; dts = t; duration = duration; offset = offset; chunk = chunk })) time
    (record {
      within = a.place.within;
      time = a.place.time;
      early = a.place.early;
      duration = run_on payload at.durations p.duration duration values p.number n is.duration d1 d2 d3;
      offset = subst Q same (run_on payload rs p.offset offset offsets p.number n (subst P (sym same) is.offset) o1 o2 o3);
      chunk = a.place.chunk;
      sync = a.place.sync;
      groups = a.place.groups;
    })
