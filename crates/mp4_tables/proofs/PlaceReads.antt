-- Where the samples lie, and the fault where one does not lie in the file.
use Rattle.std.proofs.Common.{◌≡◌, ℕ, map, sym, ◌∙◌, Bool, true}
use Rattle.std.specs.Prelude.{nat_lt}
use Rattle.mp4_boxes.specs.format.Box.{Box}
use Rattle.mp4_tables.specs.format.Tables.{ChunkRow}
use Rattle.mp4_tables.specs.format.PlainSamples.{in_chunks, in_chunks_total}
use Rattle.mp4_tables.specs.words.Rows.{chunk_rows_at, offsets_at, sizes_at}
use Rattle.mp4_tables.specs.format.TableRules.{places, test, is_chunk_order}
use Rattle.mp4_tables.specs.words.TablesComing.{all_lie_within}
use Rattle.mp4_tables.specs.words.Leaves.{surroundings_of, tables_in, SizesRead, ChunksRead, ChunkRowsRead}
use Rattle.mp4_tables.specs.declared.leaves.Limits.{Limits}
use Rattle.mp4_tables.specs.declared.places.RowsAt.{RowsAt}
use Rattle.mp4_tables.specs.declared.places.SizesAt.{SizesAt}
use Rattle.mp4_tables.specs.declared.places.ChunksAt.{ChunksAt}
use Rattle.mp4_tables.proofs.Counts.{eqb_is}
use Rattle.mp4_tables.proofs.ChunkReads.{offsets_counted}

-- the rows are in order, and hold all samples
pub places_ordered : (l : Limits) (stbl : Box) (n : ℕ) (at : ChunksAt) (r : RowsAt) → ChunksRead stbl at → ChunkRowsRead l stbl n r → is_chunk_order (map (λ (row : ChunkRow). row.first) (chunk_rows_at stbl.payload r)) (nat_lt 0 at.rows.count) ≡ true
places_ordered l stbl n at r k h = (let c = sym (offsets_counted stbl at k) in let d = h.same in λ j. is_chunk_order (map (λ (row : ChunkRow). row.first) (d j)) (nat_lt 0 (c j))) ∙ h.ordered

pub places_counted : (l : Limits) (stbl : Box) (n : ℕ) (at : ChunksAt) (r : RowsAt) → ChunksRead stbl at → ChunkRowsRead l stbl n r → in_chunks_total (chunk_rows_at stbl.payload r) 1 (offsets_at stbl.payload at) ≡ n
places_counted l stbl n at r k h = (let c = k.same in let d = h.same in λ j. in_chunks_total (d j) 1 (c j)) ∙ eqb_is (in_chunks_total (tables_in stbl).chunk_rows 1 (tables_in stbl).chunk_offsets) n h.count

pub places_as : (l : Limits) (stbl : Box) (n : ℕ) (sizes : SizesAt) (at : ChunksAt) (r : RowsAt) (v : Bool) → SizesRead l stbl sizes → ChunksRead stbl at → ChunkRowsRead l stbl n r
    → all_lie_within l.file_len (in_chunks (chunk_rows_at stbl.payload r) 1 (offsets_at stbl.payload at) (sizes_at stbl.payload sizes)) ≡ v → test places (surroundings_of l) (tables_in stbl) ≡ v
places_as l stbl n sizes at r v s k h t = (let a = sym s.same in let c = sym k.same in let d = sym h.same in λ j. all_lie_within l.file_len (in_chunks (d j) 1 (c j) (a j))) ∙ t
