use Rattle.std.proofs.Common.{arith, ◌+◌, sym, refl, ◌∙◌}
use Rattle.mp4_tables.specs.words.Rows.{chunk_rows_at, offsets_at, offset_width, sizes_at}
use Rattle.mp4_tables.proofs.RowLists.{chunk_rows_length, numbers_length, sizes_length}
use Rattle.mp4_tables.proofs.SpotLists.{lies_in_chunks, spot_left, spot_passed, spot_ahead, within_yes, within_no, within_all}
use Rattle.mp4_tables.specs.format.PlainSamples.{in_chunks}
use Rattle.mp4_tables.proofs.Fronts.{front_fails}
use Rattle.mp4_tables.proofs.data_places.lie_within.Goals as goal

pub loop-i-init : goal.loop-i-init
loop-i-init g c = record {
  place = c.first_chunk-place.ensures (sizes_at c.args.payload.now c.args.sizes);
  same = refl;
  cost = omega arith;
}

pub returns-then-not-lies-clause-same : goal.returns-then-not-lies-clause-same
returns-then-not-lies-clause-same g c =
    let n = sizes_length c.args.sizes.form c.args.payload.now c.args.sizes.rows in
    sym (c.loop-i.invariant.same
    ∙ within_no (chunk_rows_at c.args.payload.now c.args.rows) (offsets_at c.args.payload.now c.args.chunks) (sizes_at c.args.payload.now c.args.sizes) c.loop-i.place c.args.file_len c.loop-i.i c.checked_size_at-size.result
    (c.requires.counts ∙ sym n) c.loop-i.invariant.place (omega arith) c.checked_size_at-size.ensures (sym c.if-not-lies.ensures))

pub pass_sample-requires-clause-place : goal.pass_sample-requires-clause-place
pass_sample-requires-clause-place g c = lies_in_chunks c.args.payload.now c.args.rows c.args.chunks _ _ _ c.loop-i.invariant.place

pub pass_sample-requires-clause-some : goal.pass_sample-requires-clause-some
pass_sample-requires-clause-some g c =
    let n = sizes_length c.args.sizes.form c.args.payload.now c.args.sizes.rows in
    spot_left (chunk_rows_at c.args.payload.now c.args.rows) (offsets_at c.args.payload.now c.args.chunks) (sizes_at c.args.payload.now c.args.sizes) c.loop-i.place c.loop-i.i (c.requires.counts ∙ sym n) c.loop-i.invariant.place (omega arith)

pub loop-i-preserved : goal.loop-i-preserved
loop-i-preserved g c =
    let n = sizes_length c.args.sizes.form c.args.payload.now c.args.sizes.rows in
    let m = numbers_length (offset_width c.args.chunks.is_wide) c.args.payload.now c.args.chunks.rows in
    let k = chunk_rows_length c.args.payload.now c.args.rows in
    let e = c.pass_sample.ensures in
    let opened = e.place.opened in
    let passed = e.place.passed in
    record {
      place = spot_passed (chunk_rows_at c.args.payload.now c.args.rows) (offsets_at c.args.payload.now c.args.chunks) (sizes_at c.args.payload.now c.args.sizes) c.loop-i.place c.pass_sample.new.place c.loop-i.i c.checked_size_at-size.result
          c.loop-i.invariant.place (omega arith) c.checked_size_at-size.ensures e.next e.settled (λ h. e.place.at (omega arith)) (omega arith) (omega arith);
      same = c.loop-i.invariant.same
          ∙ within_yes (chunk_rows_at c.args.payload.now c.args.rows) (offsets_at c.args.payload.now c.args.chunks) (sizes_at c.args.payload.now c.args.sizes) c.loop-i.place c.args.file_len c.loop-i.i c.checked_size_at-size.result
          (c.requires.counts ∙ sym n) c.loop-i.invariant.place (omega arith) c.checked_size_at-size.ensures (sym c.if-not-lies.ensures);
      cost = omega arith;
    }

pub returns-clause-same : goal.returns-clause-same
returns-clause-same g c =
    let n = sizes_length c.args.sizes.form c.args.payload.now c.args.sizes.rows in
    sym (c.loop-i.invariant.same ∙ within_all (chunk_rows_at c.args.payload.now c.args.rows) (offsets_at c.args.payload.now c.args.chunks) (sizes_at c.args.payload.now c.args.sizes) c.args.file_len c.loop-i.i (c.requires.counts ∙ sym n) (omega arith))

pub returns-then-not-lies-clause-stopped : goal.returns-then-not-lies-clause-stopped
returns-then-not-lies-clause-stopped g c _ =
    let rows = chunk_rows_at c.args.payload.now c.args.rows in
    let offsets = offsets_at c.args.payload.now c.args.chunks in
    let sizes = sizes_at c.args.payload.now c.args.sizes in
    let n = sizes_length c.args.sizes.form c.args.payload.now c.args.sizes.rows in
    record {
      count = c.loop-i.i + 1;
      steps = omega arith;
      wrong = front_fails _ (in_chunks rows 1 offsets sizes) _ c.loop-i.i _
          (spot_ahead rows offsets sizes c.loop-i.place c.loop-i.i c.checked_size_at-size.result (c.requires.counts ∙ sym n) c.loop-i.invariant.place (omega arith) c.checked_size_at-size.ensures) (sym c.if-not-lies.ensures);
    }
