use Rattle.std.proofs.Common.{◌≡◌, drop, [], sym, arith}
use Rattle.mp4_tables.proofs.RowLists.{runs_all}
use Rattle.mp4_tables.specs.words.GroupBoxes.{group_runs}
use Rattle.mp4_frag.proofs.groups.count_samples.Goals as goal

pub returns-clause-indexes : goal.returns-clause-indexes
returns-clause-indexes g c =
    let none : drop c.loop-k.k (group_runs c.args.payload.now c.args.group) ≡ [] = runs_all c.args.payload.now (record { place = c.args.group.rows; count = c.args.group.count }) c.loop-k.k c.loop-k-test.false in
    sym (rw none at c.loop-k.invariant.indexes)

pub returns-clause-total : goal.returns-clause-total
returns-clause-total g c =
    let none : drop c.loop-k.k (group_runs c.args.payload.now c.args.group) ≡ [] = runs_all c.args.payload.now (record { place = c.args.group.rows; count = c.args.group.count }) c.loop-k.k c.loop-k-test.false in
    let all = rw none at c.loop-k.invariant.whole in
    omega (arith, all)
