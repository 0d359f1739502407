use Rattle.std.proofs.Common.{arith, ap}
use Rattle.mp4_tables.specs.words.Rows.{offset_width}
use Rattle.mp4_tables.specs.declared.places.ChunkRowPlace.{ChunkRowPlace}
use Rattle.mp4_tables.proofs.RowLists.{chunk_rows_length, numbers_length}
use Rattle.mp4_tables.proofs.ChunkLists.{row_before}
use Rattle.mp4_tables.proofs.SpotLists.{spot_first}
use Rattle.mp4_tables.proofs.chunks.first_chunk.Goals as goal

pub open_chunk-requires-clause-place : goal.open_chunk-requires-clause-place
open_chunk-requires-clause-place c = record {
  at = row_before _ _ _ c.requires.ordered c.no_row.ensures;
  opened = omega arith;
  passed = let none = ap (λ (p : ChunkRowPlace). p.row) c.no_row.ensures in omega arith;
}

pub returns : goal.returns
returns c sizes =
    let rows = chunk_rows_length c.args.payload.now c.args.rows in
    let offsets = numbers_length (offset_width c.args.chunks.is_wide) c.args.payload.now c.args.chunks.rows in
    let e = c.open_chunk.ensures in
    let opened = e.place.opened in
    let passed = e.place.passed in
    spot_first _ _ sizes c.open_chunk.new.place _ (ap (λ (r : ChunkRowPlace). record { opened = 0; row = r; left = 0; at = 0 }) c.no_row.ensures)
    e.same e.settled (λ h. e.place.at (omega arith)) (omega arith) (omega arith)
