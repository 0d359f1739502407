use Rattle.std.proofs.Common.{refl}
use Rattle.mp4_tables.proofs.IndexesLeft.{over_next}
use Rattle.mp4_tables.proofs.indexes.IndexPlaces.pass.Goals as goal

pub returns-then-are_over-clause-next : goal.returns-then-are_over-clause-next
returns-then-are_over-clause-next c = over_next c.args.payload.now c.args.rows.now c.args.self.now c.requires (c.if-are_over.ensures refl)
