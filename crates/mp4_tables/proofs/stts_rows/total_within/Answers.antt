use Rattle.std.proofs.Common.{arith, ◌+◌}
use Rattle.mp4_tables.specs.words.Rows.{runs_at}
use Rattle.mp4_tables.proofs.RunLists.{total_more}
use Rattle.mp4_tables.proofs.Fronts.{total_front}
use Rattle.mp4_tables.proofs.stts_rows.total_within.Goals as goal

pub returns-then-total-from-clause-stopped : goal.returns-then-total-from-clause-stopped
returns-then-total-from-clause-stopped g c =
    let runs = runs_at c.args.payload.now c.args.rows in
    let k = c.loop-k.k in
    let whole = c.loop-k.invariant.whole in
    let more = total_more runs k c.run_at.result.count c.run_at.result.value c.run_at.ensures in
    let front = total_front runs (k + 1) in
    record { count = k + 1; steps = omega arith; wrong = omega (arith, whole, more, front) }
