use Rattle.std.proofs.Common.{◌≡◌, ◌-◌, ◌<◌, ◌≤◌}
use Rattle.mp4_tables.specs.words.Rows.{chunk_rows_at, offsets_at}
use Rattle.mp4_tables.specs.words.TablesComing.{IsRowPlace, spots_coming}
use Rattle.mp4_tables.proofs.chunks.open_chunk.Given as goal

-- the samples still to come are the same
abbrev pub invariant-loop-place : goal.invariant-loop-place
invariant-loop-place l = record {
  same : spots_coming (chunk_rows_at l.payload l.rows) (offsets_at l.payload l.chunks) l.place ≡ spots_coming (chunk_rows_at l.payload l.rows) (offsets_at l.payload l.chunks) l.fn.place;
  row : l.place.opened < l.chunks.rows.count → IsRowPlace (chunk_rows_at l.payload l.rows) l.place.opened l.place.row;
  opened : l.place.opened ≤ l.chunks.rows.count;
  passed : l.place.row.row ≤ l.rows.count;
  on : (l.fn.place.opened ≤ l.place.opened) × (l.fn.place.row.row ≤ l.place.row.row);
}

abbrev pub decreases-loop-place : goal.decreases-loop-place
decreases-loop-place l = l.chunks.rows.count - l.place.opened
