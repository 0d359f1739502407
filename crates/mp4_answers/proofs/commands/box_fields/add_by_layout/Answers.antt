use Rattle.std.proofs.Common.{rules, ◌≡◌, ◌∙◌, min}
use Rattle.mp4_store.specs.words.Device.{range}
use Rattle.mp4_answers.specs.words.LayoutsSeen.{layout_seen}
use Rattle.mp4_answers.proofs.FieldReads.{front_read, layout_joined}
use Rattle.mp4_answers.proofs.commands.box_fields.add_by_layout.Goals as goal

pub returns-clause-text : goal.returns-clause-text
returns-clause-text g c told =
    let file = g.S.Store.file c.args.store.now in
    let read : c.read_at.new.out ≡ range file c.args.bytes.from (min c.args.bytes.len 128) = search rules in
    let front = read ∙ front_read file c.args.bytes.from c.args.bytes.len c.requires.within in
    let laid = rw (c.in_ok-read_at.ensures.honesty, c.in_ok-read_at.ensures.file) at c.in_ok-add_laid.ensures.text in
    layout_joined c.args.style.spot c.args.style.most (layout_seen c.args.layout.now) c.head-head.result file c.read_at.new.out c.args.bytes.from c.args.bytes.len
    c.args.text.now.items c.open_fields.new.text.items c.add_laid.new.text.items c.close_fields.new.text.items c.requires.within front c.head-head.ensures c.in_ok-open_fields.ensures (laid told front) c.in_ok-close_fields.ensures
