-- A place among the chunks of a track.
use Rattle.std.specs.Prelude.{ℕ, List, ◌<◌, ◌≤◌}
use Rattle.mp4_tables.specs.words.Rows.{chunk_rows_at}
use Rattle.mp4_tables.specs.words.TablesComing.{IsRowPlace}
use Rattle.mp4_tables.specs.declared.places.ChunkPlace.{ChunkPlace}
use Rattle.mp4_tables.specs.declared.places.ChunksAt.{ChunksAt}
use Rattle.mp4_tables.specs.declared.places.RowsAt.{RowsAt}

-- No more chunks were opened, and no more rows passed, than there are. The row is that of the chunk
-- opened last, where there is a further one.
pub record LiesInChunks (payload : List ℕ) (rows : RowsAt) (chunks : ChunksAt) (place : ChunkPlace)
    : Type 0 where
  pub at : place.opened < chunks.rows.count
      → IsRowPlace (chunk_rows_at payload rows) place.opened place.row
  pub opened : place.opened ≤ chunks.rows.count
  pub passed : place.row.row ≤ rows.count
