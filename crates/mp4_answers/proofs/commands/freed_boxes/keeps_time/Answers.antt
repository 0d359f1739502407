use Rattle.std.proofs.Common.{rules, ◌≡◌, ◌-◌, ◌∙◌, None, true, false}
use Rattle.std.proofs.lemmas.Result.{err_from_is_err_and}
use Rattle.std.specs.Prelude.{codes, bytes_eq}
use Rattle.mp4_store.specs.words.Device.{range}
use Rattle.mp4_answers.specs.format.Losses.{is_fragment}
use Rattle.mp4_answers.specs.format.Strips.{is_named}
use Rattle.mp4_answers.proofs.FirstLosses.{has_behind, has_ends, has_here, kept_time}
use Rattle.mp4_answers.proofs.HeadersUnder.{refuses_walk}
use Rattle.mp4_answers.proofs.StripWalks.{halts_behind}
use Rattle.mp4_answers.proofs.commands.freed_boxes.keeps_time.Goals as goal

pub returns-in_err-header-clause-refusal : goal.returns-in_err-header-clause-refusal
returns-in_err-header-clause-refusal g c =
    let p = err_from_is_err_and c.from_residual.result c.from_residual.ensures.1 in
    let i = c.loop-at.invariant in
    let file = g.S.Store.file c.args.store.now in
    let e = rw (i.honesty, i.file, i.reads) at c.in_err-header.ensures.refusal in
    rw (p.1, p.2) (refuses_walk c.args.names.now (g.S.Store.is_honest c.args.store.now) c.args.span.rule file c.args.span.from c.loop-at.at c.args.span.end (g.S.Store.read_failures c.args.store.now) (g.S.Store.read_failures c.read_header.new.store) c.in_err-header.field-0.0
    c.loop-at-test.true c.requires.within i.halts e)

pub returns-then-eq-clause-time : goal.returns-then-eq-clause-time
returns-then-eq-clause-time g c told =
    let i = c.loop-at.invariant in
    let e = c.in_ok-header.ensures in
    let file = g.S.Store.file c.args.store.now in
    let h = c.in_ok-header.header in
    let w = e.fits in
    let read = rw (i.honesty, i.file) at e.header in
    let fragment : is_fragment c.args.span.rule ≡ true = search rules in
    let named : is_named c.args.names.now c.args.span.rule (codes "tfdt") None ≡ false = search rules in
    let same : bytes_eq h.kind.0 (codes "tfdt") ≡ true = search rules in
    kept_time c.args.names.now c.args.span.rule (range file c.args.span.from (c.args.span.end - c.args.span.from)) true fragment named
    (i.goes told true (has_here c.args.names.now c.args.span.rule file c.loop-at.at c.args.span.end h w.0 w.2 (read told) (codes "tfdt") same))

pub loop-at-preserved : goal.loop-at-preserved
loop-at-preserved g c =
    let i = c.loop-at.invariant in
    let e = c.in_ok-header.ensures in
    let file = g.S.Store.file c.args.store.now in
    let h = c.in_ok-header.header in
    let w = e.fits in
    let read = rw (i.honesty, i.file) at e.header in
    let other : bytes_eq h.kind.0 (codes "tfdt") ≡ false = search rules in
    record {
      span = w.2;
      honesty = e.store.honesty ∙ i.honesty;
      file = e.store.file ∙ i.file;
      reads = e.store.reads ∙ i.reads;
      halts = λ told f x. i.halts told f (halts_behind c.args.names.now c.args.span.rule file c.loop-at.at c.args.span.end h w.0 w.2 (read told) f x);
      goes = λ told has x. i.goes told has (has_behind c.args.names.now c.args.span.rule file c.loop-at.at c.args.span.end h w.0 w.2 (read told) (codes "tfdt") other has x);
    }

pub returns-clause-time : goal.returns-clause-time
returns-clause-time g c told =
    let i = c.loop-at.invariant in
    let file = g.S.Store.file c.args.store.now in
    let fragment : is_fragment c.args.span.rule ≡ true = search rules in
    let named : is_named c.args.names.now c.args.span.rule (codes "tfdt") None ≡ false = search rules in
    kept_time c.args.names.now c.args.span.rule (range file c.args.span.from (c.args.span.end - c.args.span.from)) false fragment named
    (i.goes told false (has_ends (codes "tfdt") _ file c.loop-at.at c.args.span.end (search rules)))
