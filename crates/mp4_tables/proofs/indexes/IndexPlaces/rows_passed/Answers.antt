use Rattle.std.proofs.Common.{rules, arith, length, ◌≡◌}
use Rattle.mp4_tables.proofs.IndexesLeft.{rows_counted}
use Rattle.mp4_tables.proofs.indexes.IndexPlaces.rows_passed.Goals as goal

pub returns-clause-is : goal.returns-clause-is
returns-clause-is c =
    let n : length c.args.self.now.by_key ≡ 4 = search rules in
    let e = rows_counted c.args.self.now (record { row = 0; left = 0; value = 0 }) n in
    omega (arith, e, c.rows.ensures.is, c.rows-2.ensures.is, c.rows-3.ensures.is, c.rows-4.ensures.is)
