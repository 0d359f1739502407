use Rattle.std.proofs.Common.{◌≡◌, ◌+◌, ◌*◌, ◌<◌, ◌≤◌, drop}
use Rattle.mp4_tables.specs.words.Rows.{chunk_rows_at, offsets_at}
use Rattle.mp4_tables.specs.format.PlainSamples.{in_chunks_total}
use Rattle.mp4_tables.specs.words.TablesComing.{IsRowPlace}
use Rattle.mp4_tables.proofs.chunks.chunk_counts_are.Given as goal

-- what was counted and what the other chunks hold make the whole
abbrev pub invariant-loop-opened : goal.invariant-loop-opened
invariant-loop-opened g l = record {
  whole : l.total + in_chunks_total (chunk_rows_at l.payload l.rows) (l.opened + 1) (drop l.opened (offsets_at l.payload l.fn.chunks)) ≡ in_chunks_total (chunk_rows_at l.payload l.rows) 1 (offsets_at l.payload l.fn.chunks);
  few : l.total ≤ l.n;
  row : l.opened < l.fn.chunks.rows.count → IsRowPlace (chunk_rows_at l.payload l.rows) l.opened l.place;
  within : l.place.row ≤ l.rows.count;
  cost : l.steps ≡ l.fn.steps + 2 * l.opened;
}
