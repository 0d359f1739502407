use Rattle.mp4_tables.proofs.PlaceLists.{offset_first, offset_some}
use Rattle.mp4_tables.proofs.table_samples.first_offset.Goals as goal

pub returns-in-Some : goal.returns-in-Some
returns-in-Some c = offset_some c.args.payload.now c.args.offsets c.args.n c.in-Some.at c.settle.result c.in-Some.is c.settle.ensures.same c.settle.ensures.settled c.settle.ensures.within

pub returns-in-None : goal.returns-in-None
returns-in-None c = offset_first c.args.payload.now c.args.offsets c.args.n c.in-None.is
