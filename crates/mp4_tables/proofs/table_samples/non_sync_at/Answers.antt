use Rattle.mp4_tables.proofs.PlaceLists.{not_sync_in}
use Rattle.mp4_tables.proofs.table_samples.non_sync_at.Goals as goal

pub returns-else-place-i-clause-is : goal.returns-else-place-i-clause-is
returns-else-place-i-clause-is c = not_sync_in c.args.payload.now c.args.sync c.args.place c.args.i c.requires.at c.requires.some c.in-Some.field-0 c.in-Some.is c.if-place-i.false
