use Rattle.std.proofs.Common.{◌∙◌}
use Rattle.mp4_answers.proofs.StripWalks.{its_uuid}
use Rattle.mp4_answers.proofs.commands.strip.find.Goals as goal

-- what is read of the payload says which `uuid` the box is
pub returns-clause-uuid : goal.returns-clause-uuid
returns-clause-uuid g c = λ told.
    let e = c.in_ok-header.ensures in
    let h = c.in_ok-header.header in
    let w = e.fits in
    let own = rw (e.store.honesty, e.store.file) at c.in_ok-uuid.ensures.uuid in
    own told ∙ its_uuid (g.S.Store.file c.args.store.now) c.args.at c.args.end h w.0 w.2
