use Rattle.std.proofs.Common.{◌∙◌, refl}
use Rattle.mp4_tables.specs.words.Indexes.{indexes_coming}
use Rattle.mp4_tables.specs.words.Keys.{keys_seen}
use Rattle.mp4_frag.proofs.LeavesRead.{group_taken}
use Rattle.mp4_frag.proofs.opened_trafs.open_group.Goals as goal

pub returns-clause-indexes : goal.returns-clause-indexes
returns-clause-indexes c =
    let payload = c.args.payload.now in
    let place = c.args.place.now in
    c.open_rows.ensures.opened
    ∙ group_taken payload c.args.lying.inside c.args.lying.end c.in-Some.j c.in-Ok.group (keys_seen c.args.keys) (indexes_coming payload place.index_rows place.indexes) _
    c.requires.lies.inside c.requires.lies.within c.in-Ok.ensures.group c.in-Some.ensures refl
