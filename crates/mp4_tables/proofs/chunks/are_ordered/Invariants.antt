use Rattle.std.proofs.Common.{◌≡◌, ◌+◌, drop, map}
use Rattle.mp4_tables.specs.format.Tables.{ChunkRow}
use Rattle.mp4_tables.specs.words.Rows.{chunk_rows_at}
use Rattle.mp4_tables.specs.format.TableRules.{is_chunk_order, is_rising_after}
use Rattle.mp4_tables.proofs.Fronts.{RisesBehind}
use Rattle.mp4_tables.proofs.chunks.are_ordered.Given as goal

-- the rows are in order exactly if those that are left rise
abbrev pub invariant-loop-k : goal.invariant-loop-k
invariant-loop-k g l = record {
  same : is_chunk_order (map (λ (row : ChunkRow). row.first) (chunk_rows_at l.payload l.rows)) l.fn.has_chunks ≡ is_rising_after l.last (map (λ (row : ChunkRow). row.first) (drop l.k (chunk_rows_at l.payload l.rows)));
  front : RisesBehind l.fn.has_chunks (chunk_rows_at l.payload l.rows) l.k l.last;
  cost : l.steps ≡ l.fn.steps + l.k;
}
