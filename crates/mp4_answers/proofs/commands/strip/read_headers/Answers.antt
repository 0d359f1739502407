use Rattle.std.proofs.Common.{◌∙◌}
use Rattle.std.proofs.lemmas.Result.{err_from_is_err_and}
use Rattle.mp4_answers.proofs.HeadersUnder.{refuses_walk}
use Rattle.mp4_answers.proofs.StripWalks.{halts_behind}
use Rattle.mp4_answers.proofs.commands.strip.read_headers.Goals as goal

pub returns-in_err-header-clause-refusal : goal.returns-in_err-header-clause-refusal
returns-in_err-header-clause-refusal g c =
    let p = err_from_is_err_and c.from_residual.result c.from_residual.ensures.1 in
    let i = c.loop-at.invariant in
    let file = g.S.Store.file c.args.store.now in
    let e = rw (i.honesty, i.file, i.reads) at c.in_err-header.ensures.refusal in
    rw (p.1, p.2) (refuses_walk c.args.names.now (g.S.Store.is_honest c.args.store.now) c.args.span.rule file c.args.span.from c.loop-at.at c.args.span.end (g.S.Store.read_failures c.args.store.now) (g.S.Store.read_failures c.read_header.new.store) c.in_err-header.field-0.0
    c.loop-at-test.true c.requires.within i.halts e)

pub loop-at-preserved : goal.loop-at-preserved
loop-at-preserved g c =
    let i = c.loop-at.invariant in
    let e = c.in_ok-header.ensures in
    let file = g.S.Store.file c.args.store.now in
    let h = c.in_ok-header.header in
    let w = e.fits in
    let read = rw (i.honesty, i.file) at e.header in
    record {
      span = w.2;
      honesty = e.store.honesty ∙ i.honesty;
      file = e.store.file ∙ i.file;
      reads = e.store.reads ∙ i.reads;
      halts = λ told f x. i.halts told f (halts_behind c.args.names.now c.args.span.rule file c.loop-at.at c.args.span.end h w.0 w.2 (read told) f x);
    }
