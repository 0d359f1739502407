use Rattle.std.proofs.Common.{rules}
use Rattle.mp4_tables.proofs.Sums.{sizes_all}
use Rattle.mp4_tables.proofs.totals.sum_of_sizes.Goals as goal

pub returns-clause-sum : goal.returns-clause-sum
returns-clause-sum g c = let i = c.loop-i.invariant in sizes_all c.args.payload.now c.args.sizes c.loop-i.i _ _ (search rules) i.small i.whole
