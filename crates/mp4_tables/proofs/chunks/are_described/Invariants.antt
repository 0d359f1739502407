use Rattle.std.proofs.Common.{◌≡◌, ◌+◌, ◌*◌, ◌<◌, ◌≤◌, drop}
use Rattle.mp4_tables.specs.words.Rows.{chunk_rows_at, offsets_at}
use Rattle.mp4_tables.specs.words.TablesComing.{IsRowPlace, are_described}
use Rattle.mp4_tables.proofs.chunks.are_described.Given as goal

-- all is well exactly if it is with the other chunks
abbrev pub invariant-loop-opened : goal.invariant-loop-opened
invariant-loop-opened g l = record {
  same : are_described l.descriptions (chunk_rows_at l.payload l.rows) 1 (offsets_at l.payload l.fn.chunks) ≡ are_described l.descriptions (chunk_rows_at l.payload l.rows) (l.opened + 1) (drop l.opened (offsets_at l.payload l.fn.chunks));
  row : l.opened < l.fn.chunks.rows.count → IsRowPlace (chunk_rows_at l.payload l.rows) l.opened l.place;
  within : l.place.row ≤ l.rows.count;
  cost : l.steps ≡ l.fn.steps + 2 * l.opened;
}
