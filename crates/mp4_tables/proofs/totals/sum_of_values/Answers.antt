use Rattle.std.proofs.Common.{rules}
use Rattle.mp4_tables.specs.words.Rows.{runs_at}
use Rattle.mp4_tables.proofs.Sums.{rows_all, repeated_sum}
use Rattle.mp4_tables.proofs.totals.sum_of_values.Goals as goal

pub returns-clause-sum : goal.returns-clause-sum
returns-clause-sum g c =
    let i = c.loop-k.invariant in
    rw (repeated_sum (runs_at c.args.payload.now c.args.rows)) (rows_all c.args.payload.now c.args.rows c.loop-k.k _ _ (search rules) i.small i.whole)
