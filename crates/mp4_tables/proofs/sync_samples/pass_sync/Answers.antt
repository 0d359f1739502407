use Rattle.std.proofs.Common.{arith}
use Rattle.mp4_tables.specs.words.Rows.{numbers_at}
use Rattle.mp4_tables.proofs.RowLists.{numbers_length}
use Rattle.mp4_tables.proofs.SyncLists.{sync_passed, sync_kept, sync_kept_last}
use Rattle.mp4_tables.proofs.sync_samples.pass_sync.Goals as goal

pub returns-then-place-rows-clause-at : goal.returns-then-place-rows-clause-at
returns-then-place-rows-clause-at c = sync_passed (numbers_at 4 c.args.payload.now c.args.rows) c.args.place.now c.args.i c.number_in.result c.requires.at c.requires.some c.if-place-i.true c.number_in.ensures

pub returns-else-place-i-clause-at : goal.returns-else-place-i-clause-at
returns-else-place-i-clause-at c = sync_kept (numbers_at 4 c.args.payload.now c.args.rows) c.args.place.now c.args.i c.requires.at c.requires.some c.if-place-i.false

pub returns-else-place-rows-clause-at : goal.returns-else-place-rows-clause-at
returns-else-place-rows-clause-at c =
    let n = numbers_length 4 c.args.payload.now c.args.rows in
    sync_kept_last (numbers_at 4 c.args.payload.now c.args.rows) c.args.place.now c.args.i c.requires.at c.requires.some (omega arith)
