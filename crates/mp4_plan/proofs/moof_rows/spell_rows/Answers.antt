use Rattle.std.proofs.Common.{arith}
use Rattle.mp4_plan.specs.words.Spelling.{run_row}
use Rattle.mp4_plan.proofs.RowBytes.{row_pushed}
use Rattle.mp4_plan.proofs.moof_rows.spell_rows.Goals as goal

pub loop-row-preserved : goal.loop-row-preserved
loop-row-preserved c =
    let i = c.loop-row.invariant in
    let e = c.push_row.ensures in
    let short = i.short in
    let length = e.length in
    record {
      rows = row_pushed (run_row c.args.planned.now) c.args.rows.now c.loop-row.row-index _ _ _ c.loop-row-test.true i.rows e.is;
      short = omega (arith, short, length);
    }
