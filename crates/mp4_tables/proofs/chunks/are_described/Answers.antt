use Rattle.std.proofs.Common.{arith, ◌+◌, ap, sym, ◌∙◌, refl}
use Rattle.mp4_tables.specs.words.Rows.{chunk_rows_at}
use Rattle.mp4_tables.specs.declared.places.ChunkRowPlace.{ChunkRowPlace}
use Rattle.mp4_tables.proofs.ChunkLists.{row_before, count_here, description_here, described_yes, described_no, described_all}
use Rattle.mp4_tables.specs.words.Rows.{offsets_at, offset_width}
use Rattle.mp4_tables.proofs.RowLists.{numbers_length}
use Rattle.mp4_tables.proofs.Fronts.{described_front}
use Rattle.mp4_tables.proofs.chunks.are_described.Goals as goal

pub loop-opened-init : goal.loop-opened-init
loop-opened-init g c = record {
  same = refl;
  row = row_before _ _ _ c.requires.ordered c.no_row-place.ensures;
  within = (let none = ap (λ (p : ChunkRowPlace). p.row) c.no_row-place.ensures in omega arith);
  cost = omega arith;
}

pub returns-then-not-has_description-clause-same : goal.returns-then-not-has_description-clause-same
returns-then-not-has_description-clause-same g c =
    sym (c.loop-opened.invariant.same ∙ described_no _ _ _ _ _ _ c.loop-opened-test.true c.next_row-place.ensures.at (sym c.if-not-has_description.ensures))

pub loop-opened-preserved : goal.loop-opened-preserved
loop-opened-preserved g c = record {
  same = c.loop-opened.invariant.same ∙ described_yes _ _ _ _ _ _ c.loop-opened-test.true c.next_row-place.ensures.at (sym c.if-not-has_description.ensures);
  row = λ _. c.next_row-place.ensures.at;
  within = c.next_row-place.ensures.within;
  cost = omega arith;
}

pub returns-clause-same : goal.returns-clause-same
returns-clause-same g c = sym (c.loop-opened.invariant.same ∙ described_all c.args.payload.now c.args.chunks (chunk_rows_at c.args.payload.now c.args.rows) c.args.descriptions c.loop-opened.opened c.loop-opened-test.false)

pub returns-then-not-has_description-clause-stopped : goal.returns-then-not-has_description-clause-stopped
returns-then-not-has_description-clause-stopped g c _ =
    let rows = chunk_rows_at c.args.payload.now c.args.rows in
    let n = numbers_length (offset_width c.args.chunks.is_wide) c.args.payload.now c.args.chunks.rows in
    let at = c.next_row-place.ensures.at in
    record {
      count = c.loop-opened.opened + 1;
      steps = omega arith;
      wrong = described_front _ rows 1 (c.loop-opened.opened + 1) (offsets_at c.args.payload.now c.args.chunks) c.loop-opened.opened (omega arith) (omega arith)
          (rw (count_here rows _ _ at, description_here rows _ _ at) (sym c.if-not-has_description.ensures));
    }
