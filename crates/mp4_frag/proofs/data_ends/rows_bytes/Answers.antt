use Rattle.std.proofs.Common.{◌≡◌, ap, arith}
use Rattle.mp4_frag.specs.words.Passing.{filling}
use Rattle.mp4_frag.proofs.RowsLeft.{no_rows}
use Rattle.mp4_frag.proofs.data_ends.rows_bytes.Goals as goal

pub returns : goal.returns
returns c =
    let none : c.loop-run.run.left ≡ 0 = omega (arith, c.loop-run-test.false) in
    let sum = c.loop-run.invariant.sum in
    let over = ap (filling c.args.inherited) (no_rows c.args.payload.now c.loop-run.run none) in
    omega (arith, sum, over)
