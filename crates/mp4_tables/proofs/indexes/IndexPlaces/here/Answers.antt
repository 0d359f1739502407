use Rattle.std.proofs.Common.{rules, refl, length, ◌≡◌}
use Rattle.mp4_tables.proofs.IndexesLeft.{over_here, four_here}
use Rattle.mp4_tables.proofs.indexes.IndexPlaces.here.Goals as goal

pub returns-then-are_over : goal.returns-then-are_over
returns-then-are_over c =
    let n : length c.args.self.now.by_key ≡ 4 = search rules in
    λ payload rows at. over_here payload rows c.args.self.now n at (c.if-are_over.ensures refl)

pub returns : goal.returns
returns c =
    let n : length c.args.self.now.by_key ≡ 4 = search rules in
    λ payload rows at. four_here payload rows c.args.self.now _ _ _ _ _ n at c.index_here.ensures c.index_here-2.ensures c.index_here-3.ensures c.index_here-4.ensures
