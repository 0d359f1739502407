use Rattle.std.proofs.Common.{rules, arith}
use Rattle.mp4_answers.proofs.BoxSpans.{uuid_read}
use Rattle.mp4_answers.proofs.commands.boxes.read_uuid.Goals as goal

pub returns-clause-uuid : goal.returns-clause-uuid
returns-clause-uuid g c told =
    let from = c.from.ensures in
    let enough = c.if-header-payload-lt16.false in
    let inside = c.requires.0 in
    let read = rw from at (c.in_ok-read_at.ensures.read told) in
    uuid_read (g.S.Store.file c.args.store.now) c.args.found.now c.read_at.new.out c.requires (search rules) (omega (arith, from, enough, inside)) read
