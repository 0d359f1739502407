use Rattle.std.proofs.Common.{arith, inr, ap, ◌+◌, drop}
use Rattle.mp4_tables.specs.words.Rows.{chunk_rows_at, offsets_at}
use Rattle.mp4_tables.specs.format.PlainSamples.{in_chunks_total}
use Rattle.mp4_tables.specs.declared.places.ChunkRowPlace.{ChunkRowPlace}
use Rattle.mp4_tables.proofs.ChunkLists.{row_before, samples_more, passed_by}
use Rattle.mp4_tables.proofs.Fronts.{chunks_front}
use Rattle.mp4_tables.proofs.chunks.chunk_counts_are.Goals as goal

pub loop-opened-init : goal.loop-opened-init
loop-opened-init g c = record {
  whole = omega arith;
  few = omega arith;
  row = row_before _ _ _ c.requires.ordered c.no_row-place.ensures;
  within = (let none = ap (λ (p : ChunkRowPlace). p.row) c.no_row-place.ensures in omega arith);
  cost = omega arith;
}

pub returns-then-total-from-clause-same : goal.returns-then-total-from-clause-same
returns-then-total-from-clause-same g c =
    let rows = chunk_rows_at c.args.payload.now c.args.rows in
    let more = samples_more c.args.payload.now c.args.chunks rows c.loop-opened.opened c.next_row-place.result c.loop-opened-test.true c.next_row-place.ensures.at in
    let whole = c.loop-opened.invariant.whole in
    passed_by (in_chunks_total rows 1 (offsets_at c.args.payload.now c.args.chunks)) c.args.n (c.loop-opened.total + c.next_row-place.result.samples)
    (in_chunks_total rows (c.loop-opened.opened + 1 + 1) (drop (c.loop-opened.opened + 1) (offsets_at c.args.payload.now c.args.chunks))) (omega arith) (omega arith)

pub loop-opened-preserved : goal.loop-opened-preserved
loop-opened-preserved g c =
    let more = samples_more c.args.payload.now c.args.chunks (chunk_rows_at c.args.payload.now c.args.rows) c.loop-opened.opened c.next_row-place.result c.loop-opened-test.true c.next_row-place.ensures.at in
    record {
      whole = omega arith;
      few = omega arith;
      row = λ _. c.next_row-place.ensures.at;
      within = c.next_row-place.ensures.within;
      cost = omega arith;
    }

pub returns-then-total-from-clause-stopped : goal.returns-then-total-from-clause-stopped
returns-then-total-from-clause-stopped g c _ =
    let rows = chunk_rows_at c.args.payload.now c.args.rows in
    let offsets = offsets_at c.args.payload.now c.args.chunks in
    let k = c.loop-opened.opened in
    let more = samples_more c.args.payload.now c.args.chunks rows k c.next_row-place.result c.loop-opened-test.true c.next_row-place.ensures.at in
    let whole = c.loop-opened.invariant.whole in
    let front = chunks_front rows 1 (k + 1 + 1) offsets (k + 1) (omega arith) in
    inr (record { count = k + 1; steps = omega arith; wrong = omega (arith, more, whole, front) })
