use Rattle.std.proofs.Common.{rules, ◌∙◌, arith}
use Rattle.std.proofs.lemmas.Result.{err_from_is_err_and}
use Rattle.std.proofs.lemmas.List.{map_push}
use Rattle.std.proofs.lemmas.List.Elements.{All-push}
use Rattle.mp4_present.specs.declared.reading.TopBox.{TopBox}
use Rattle.mp4_answers.specs.format.BoxWalk.{tops_seen, IsWithin}
use Rattle.mp4_answers.proofs.BoxSpans.{span_more, span_tiles, refuses_between}
use Rattle.mp4_answers.proofs.commands.boxes.boxes_between.Goals as goal

pub returns-in_err-header-clause-refusal : goal.returns-in_err-header-clause-refusal
returns-in_err-header-clause-refusal g c =
    let p = err_from_is_err_and c.from_residual.result c.from_residual.ensures.1 in
    let i = c.loop-at.invariant in
    let file = g.S.Store.file c.args.store.now in
    let e = rw (i.honesty, i.file, i.reads) at c.in_err-header.ensures.refusal in
    rw (p.1, p.2) (refuses_between (g.S.Store.is_honest c.args.store.now) file c.args.span.rule c.args.span.from c.args.span.end (tops_seen file c.loop-at.boxes.items) c.loop-at.at (g.S.Store.read_failures c.args.store.now) (g.S.Store.read_failures c.read_header.new.store)
    c.in_err-header.field-0.0 i.passed c.loop-at-test.true c.requires.within e)

pub loop-at-preserved : goal.loop-at-preserved
loop-at-preserved g c =
    let i = c.loop-at.invariant in
    let e = c.in_ok-header.ensures in
    let file = g.S.Store.file c.args.store.now in
    let h = c.in_ok-header.header in
    let w = e.fits in
    let le = c.requires.within in
    let top : TopBox = record { offset = c.loop-at.at; header = h } in
    record {
      span = w.2;
      honesty = e.store.honesty ∙ i.honesty;
      file = e.store.file ∙ i.file;
      reads = e.store.reads ∙ i.reads;
      passed = λ told.
          let read = rw (i.honesty, i.file) at e.header in
          let more = span_more file c.args.span.rule c.args.span.from c.args.span.end (tops_seen file c.loop-at.boxes.items) c.loop-at.at h (i.passed told) (read told) w.0 w.2 in
          rw (c.in_ok-push.ensures.items, map_push) more;
      within = rw c.in_ok-push.ensures.items (All-push (IsWithin file) c.loop-at.boxes.items top i.within (w.0, omega (arith, w.2, le)));
    }

pub returns-clause-tiles : goal.returns-clause-tiles
returns-clause-tiles g c told start =
    let file = g.S.Store.file c.args.store.now in
    let i = c.loop-at.invariant in
    span_tiles file c.args.span.rule start c.args.span.from c.args.span.end (tops_seen file c.loop-at.boxes.items) c.loop-at.at (i.passed told) (search rules) i.span c.requires.within
