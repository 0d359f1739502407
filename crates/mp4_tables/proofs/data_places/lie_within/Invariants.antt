use Rattle.std.proofs.Common.{◌≡◌, ◌+◌, ◌*◌, drop}
use Rattle.mp4_tables.specs.format.PlainSamples.{in_chunks}
use Rattle.mp4_tables.specs.words.Rows.{chunk_rows_at, offsets_at, sizes_at}
use Rattle.mp4_tables.specs.words.TablesComing.{all_lie_within, IsChunkPlace}
use Rattle.mp4_tables.proofs.data_places.lie_within.Given as goal

-- all lie in the file exactly if the others do
abbrev pub invariant-loop-i : goal.invariant-loop-i
invariant-loop-i g l = record {
  place : IsChunkPlace (chunk_rows_at l.payload l.rows) (offsets_at l.payload l.chunks) (sizes_at l.payload l.sizes) l.place l.i;
  same : all_lie_within l.file_len (in_chunks (chunk_rows_at l.payload l.rows) 1 (offsets_at l.payload l.chunks) (sizes_at l.payload l.sizes))
      ≡ all_lie_within l.file_len (drop l.i (in_chunks (chunk_rows_at l.payload l.rows) 1 (offsets_at l.payload l.chunks) (sizes_at l.payload l.sizes)));
  cost : l.steps ≡ l.fn.steps + 2 * l.i + 2 * l.chunks.rows.count;
}
