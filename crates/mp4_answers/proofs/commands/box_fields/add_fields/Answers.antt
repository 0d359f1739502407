use Rattle.mp4_answers.specs.words.LayoutsSeen.{layout_seen}
use Rattle.mp4_answers.proofs.FieldParts.{on_ok}
use Rattle.mp4_answers.proofs.FieldReads.{box_joined}
use Rattle.mp4_answers.proofs.commands.box_fields.add_fields.Goals as goal

pub returns-clause-text : goal.returns-clause-text
returns-clause-text g c =
    let top = c.args.found.now in
    on_ok c.add_by_layout.result (λ told honest. box_joined c.args.style.spot c.args.style.most top.header.kind.0 (layout_seen c.in-Some.layout) (g.S.Store.file c.args.store.now) top.offset top.header.header top.header.end c.args.text.now.items c.add_by_layout.new.text.items
    c.in-Some.ensures.layout (rw c.from.ensures at (told honest)))
    c.add_by_layout.ensures.text
