use Rattle.std.proofs.Common.{arith}
use Rattle.mp4_tables.proofs.RowLists.{chunk_rows_all}
use Rattle.mp4_tables.proofs.ChunkLists.{row_taken, row_kept_last}
use Rattle.mp4_tables.proofs.chunks.next_row.Goals as goal

pub returns-then-from-clause-at : goal.returns-then-from-clause-at
returns-then-from-clause-at c =
    let r = c.chunk_row_at-row.result in
    row_taken _ c.args.opened c.args.place (record { first = r.first; count = r.count; description = r.description }) c.requires.at c.chunk_row_at-row.ensures (omega arith)

pub returns-else-place-rows-clause-at : goal.returns-else-place-rows-clause-at
returns-else-place-rows-clause-at c = row_kept_last _ _ _ c.requires.at (chunk_rows_all _ _ _ (omega arith))
