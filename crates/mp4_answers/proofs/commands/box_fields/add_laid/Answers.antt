use Rattle.mp4_answers.specs.format.Layouts.{fields_of, tail_of}
use Rattle.mp4_answers.specs.words.LayoutsSeen.{layout_seen}
use Rattle.mp4_answers.proofs.FieldReads.{laid_joined}
use Rattle.mp4_answers.proofs.commands.box_fields.add_laid.Goals as goal

pub returns-clause-text : goal.returns-clause-text
returns-clause-text g c told front =
    let l = layout_seen c.args.layout.now in
    let width = rw c.fields-fields.ensures.fields at c.width_of-width.ensures.width in
    let one = rw c.fields-fields.ensures.fields at c.in_ok-push_fields.ensures in
    let two = rw (c.tail-tail.ensures.tail, c.min-skipped.ensures, width) at (c.in_ok-add_tail.ensures.text told) in
    let three = rw (c.tail_width.ensures.width, c.tail-tail.ensures.tail, c.min-skipped.ensures, width) at c.in_ok-push_notes.ensures in
    laid_joined c.args.style.spot c.args.style.most c.args.head (fields_of l c.args.head) (tail_of l c.args.head) (g.S.Store.file c.args.store.now) c.args.front.now c.args.bytes.from c.args.bytes.len
    c.args.text.now.items c.push_fields.new.text.items c.add_tail.new.text.items c.push_notes.new.text.items c.requires.within front one two three
