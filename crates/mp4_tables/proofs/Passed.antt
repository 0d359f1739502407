-- How many rows and samples a walk passes, how many rows fit the bytes of an `stbl`, and between what the steps of a check lie.
use Rattle.std.proofs.Common.{ℕ, ◌+◌, ◌*◌, ◌≤◌, List, length, Bool, true, false, Option, Some, None, arith}
use Rattle.mp4_tables.specs.words.Rows.{HaveRoom, runs_at, offset_width}
use Rattle.mp4_tables.specs.words.Accepted.{offset_rows, count_of, rows_in, readings, offset_steps, check_steps, passed, HaveOffsets, HaveSync, HaveTables, IsPlace, IsSyncPlaceIn, IsRunPlaceAt}
use Rattle.mp4_tables.specs.declared.places.RowsAt.{RowsAt}
use Rattle.mp4_tables.specs.declared.places.OffsetsAt.{OffsetsAt}
use Rattle.mp4_tables.specs.declared.places.RunPlace.{RunPlace}
use Rattle.mp4_tables.specs.declared.places.SyncPlace.{SyncPlace}
use Rattle.mp4_tables.specs.declared.places.TablesAt.{TablesAt}
use Rattle.mp4_tables.specs.declared.places.TablePlace.{TablePlace}
use Rattle.mp4_tables.proofs.RowLists.{runs_length, numbers_length, chunk_rows_length}
use Rattle.mp4_tables.proofs.IndexesLeft.{passed_few}
use Rattle.mp4_tables.proofs.GroupWalks.{rows_bounded}

run_within : (payload : List ℕ) (r : RowsAt) (p : RunPlace) (k : ℕ) → IsRunPlaceAt (runs_at payload r) p k → p.row ≤ r.count
run_within payload r p k h = let n = runs_length payload r in let w = h.within in omega arith

sync_within : (payload : List ℕ) (o : Option RowsAt) (p : SyncPlace) (i : ℕ) → IsSyncPlaceIn payload o p i → p.row ≤ count_of o
sync_within payload None p i h = omega arith
sync_within payload (Some r) p i h = let n = numbers_length 4 payload r in let w = h.within in omega arith

-- a walk passes each row once, and each sample at most three times: in its box of sizes, in `sdtp`, and as a sample
pub passed_within : (payload : List ℕ) (at : TablesAt) (p : TablePlace) → IsPlace payload at p → passed p ≤ rows_in at + 3 * at.sizes.rows.count
passed_within payload at p h =
    let samples = h.within in
    let duration = run_within payload at.durations p.duration p.number h.duration in
    let offset = h.offset.within in
    let offsets = runs_length payload (offset_rows at.offsets) in
    let opened = h.chunk.opened in
    let chunks = numbers_length (offset_width at.chunks.is_wide) payload at.chunks.rows in
    let row = h.chunk.passed in
    let rows = chunk_rows_length payload at.chunk_rows in
    let sync = sync_within payload at.sync p.sync (p.number + 1) h.sync in
    let groups = passed_few payload at.groups.rows p.groups h.groups.places in
    omega arith

offsets_bounded : (payload : List ℕ) (o : Option OffsetsAt) → HaveOffsets payload o → 8 * (offset_rows o).count ≤ length payload
offsets_bounded payload None h = omega arith
offsets_bounded payload (Some at) h = let r = h.0 in omega arith

sync_bounded : (payload : List ℕ) (o : Option RowsAt) → HaveSync payload o → 4 * count_of o ≤ length payload
sync_bounded payload None h = omega arith
sync_bounded payload (Some at) h = omega arith

chunks_bounded : (payload : List ℕ) (r : RowsAt) (w : Bool) → HaveRoom (offset_width w) payload r → 4 * r.count ≤ length payload
chunks_bounded payload r true h = omega arith
chunks_bounded payload r false h = omega arith

-- rows take bytes: there are fewer than twice as many as bytes, for each table by itself lies within them
pub rows_fit : (payload : List ℕ) (at : TablesAt) → HaveTables payload at → 3 * rows_in at ≤ 4 * length payload
rows_fit payload at h =
    let durations = h.durations in
    let offsets = offsets_bounded payload at.offsets h.offsets in
    let rows = h.chunk_rows in
    let chunks = chunks_bounded payload at.chunks.rows at.chunks.is_wide h.chunks in
    let sync = sync_bounded payload at.sync h.sync in
    let groups = rows_bounded payload at.groups h.groups in
    omega arith

once_or_twice : (is_signed : Bool) (n : ℕ) → (n ≤ readings is_signed n) × (readings is_signed n ≤ 2 * n)
once_or_twice true n = (omega arith, omega arith)
once_or_twice false n = (omega arith, omega arith)

offsets_between : (o : Option OffsetsAt) → ((offset_rows o).count ≤ offset_steps o) × (offset_steps o ≤ 2 * (offset_rows o).count)
offsets_between None = (omega arith, omega arith)
offsets_between (Some at) = once_or_twice at.is_signed at.rows.count

-- a check takes at least one step for each row and two for each sample, and at most six and two
pub steps_between : (at : TablesAt) → (rows_in at + 2 * at.sizes.rows.count ≤ check_steps at) × (check_steps at ≤ 6 * rows_in at + 2 * at.sizes.rows.count)
steps_between at = let offsets = offsets_between at.offsets in (omega arith, omega arith)
