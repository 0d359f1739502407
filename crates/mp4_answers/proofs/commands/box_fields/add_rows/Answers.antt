use Rattle.std.proofs.Common.{◌≡◌, ◌+◌, ◌*◌, suc, ◌∙◌, arith}
use Rattle.std.proofs.Math.Nat.{suc-mul}
use Rattle.mp4_answers.specs.format.Layouts.{width_of}
use Rattle.mp4_answers.specs.words.LayoutsSeen.{fields_seen}
use Rattle.mp4_answers.proofs.FieldReads.{rows_within, rows_more}
use Rattle.mp4_answers.proofs.commands.box_fields.add_rows.Goals as goal

pub loop-number-preserved : goal.loop-number-preserved
loop-number-preserved g c =
    let i = c.loop-number.invariant in
    let e = c.in_ok-add_row.ensures in
    let n = c.loop-number.number in
    let width = c.width_of-width.result in
    let next : suc n * width ≡ n * width + width = suc-mul n width in
    let same : (n + 1) * width ≡ suc n * width = omega arith in
    let place = i.place in
    let added = rw (i.honesty, i.file, i.place, c.width_of-width.ensures.width) at e.text in
    record {
      honesty = e.store.honesty ∙ i.honesty;
      file = e.store.file ∙ i.file;
      reads = e.store.reads ∙ i.reads;
      place = omega (arith, next, same, place);
      text = λ told. rows_more c.args.spot c.args.run.head (fields_seen c.args.run.columns.now) (g.S.Store.file c.args.store.now) c.args.bytes.from c.args.bytes.len n c.args.text.now.items c.loop-number.text.items c.add_row.new.text.items
          (rows_within n c.args.count (width_of c.args.run.head (fields_seen c.args.run.columns.now)) c.args.bytes.len c.loop-number-test.true c.requires.fits) (i.text told) (added told);
    }
