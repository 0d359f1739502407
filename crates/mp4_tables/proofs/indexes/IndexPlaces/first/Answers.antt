use Rattle.std.proofs.Common.{rules, length, ◌≡◌}
use Rattle.mp4_tables.proofs.IndexesLeft.{four_first}
use Rattle.mp4_tables.proofs.indexes.IndexPlaces.first.Goals as goal

pub returns-clause-all : goal.returns-clause-all
returns-clause-all c =
    let n : length c.args.rows.now.by_key ≡ 4 = search rules in
    four_first c.args.payload.now c.args.rows.now _ _ _ _ _ _ n c.first_index.ensures.all c.first_index-2.ensures.all c.first_index-3.ensures.all c.first_index-4.ensures.all
