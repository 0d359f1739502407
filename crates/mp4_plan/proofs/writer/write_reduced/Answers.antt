use Rattle.std.proofs.Common.{List, ℕ, ◌++◌, arith, subst}
use Rattle.std.proofs.lemmas.Result.{err_from_is_err_and, on_ok_weaker}
use Rattle.std.specs.Prelude.{OnOk, OnErr}
use Rattle.mp4_store.specs.words.Device.{TakesPrefix}
use Rattle.mp4_store.proofs.Known.{TakesPrefix-nothing}
use Rattle.mp4_present.specs.format.Denotes.{presentation_of}
use Rattle.mp4_content.specs.declared.without.Without.{Without}
use Rattle.mp4_content.specs.format.Remaining.{remaining}
use Rattle.mp4_content.specs.format.Remaining.{RemainsInLimits}
use Rattle.mp4_present.proofs.WalkCopied.{on_ok}
use Rattle.mp4_plan.specs.format.Normal.{normal}
use Rattle.mp4_plan.specs.words.Writers.{IsReady}
use Rattle.mp4_plan.proofs.AllPut.{still_opened}
use Rattle.mp4_plan.proofs.LeftRefused.{so_if_ok, so_if_err, plan_puts_nothing, carried_left, carried_names}
use Rattle.mp4_plan.specs.words.PutPieces.{IsPutWhole}
use Rattle.mp4_plan.proofs.writer.write_reduced.Goals as goal

pub returns-in_err-writer-clause-prefix : goal.returns-in_err-writer-clause-prefix
returns-in_err-writer-clause-prefix g c = λ told tree o.
    let p = err_from_is_err_and c.from_residual.result c.from_residual.ensures.1 in
    rw p.1 (TakesPrefix-nothing (g.K.Sink.takes c.args.sink.now c.args.sink.now) (g.met.K.Sink.takes_nothing c.args.sink.now) _)

pub returns-clause-bytes : goal.returns-clause-bytes
returns-clause-bytes g c = λ told tree o.
    let bytes = still_opened _ _ _ _ c.args.movie.now (λ file t. IsReady file t c.args.movie.now c.in_ok-writer.writer → OnOk c.write.result (g.K.Sink.takes c.args.sink.now c.write.new.sink (normal (remaining c.in_ok-writer.writer.content.leaving (presentation_of file t)))))
    c.in_ok-writer.ensures.store.honesty c.in_ok-writer.ensures.store.file c.write.ensures.bytes in
    subst (λ (l : Without). OnOk c.write.result (g.K.Sink.takes c.args.sink.now c.write.new.sink (normal (remaining l (presentation_of (g.S.Store.file c.args.store.now) tree)))))
    c.in_ok-writer.ensures.made.left (bytes told tree o (c.in_ok-writer.ensures.ready told tree o).0.ready)

pub returns-clause-prefix : goal.returns-clause-prefix
returns-clause-prefix g c = λ told tree o.
    let prefix = still_opened _ _ _ _ c.args.movie.now (λ file t. IsReady file t c.args.movie.now c.in_ok-writer.writer
    → OnErr c.write.result (TakesPrefix (g.K.Sink.takes c.args.sink.now c.write.new.sink) (normal (remaining c.in_ok-writer.writer.content.leaving (presentation_of file t)))))
    c.in_ok-writer.ensures.store.honesty c.in_ok-writer.ensures.store.file c.write.ensures.prefix in
    subst (λ (l : Without). OnErr c.write.result (TakesPrefix (g.K.Sink.takes c.args.sink.now c.write.new.sink) (normal (remaining l (presentation_of (g.S.Store.file c.args.store.now) tree)))))
    c.in_ok-writer.ensures.made.left (prefix told tree o (c.in_ok-writer.ensures.ready told tree o).0.ready)

pub returns-clause-whole : goal.returns-clause-whole
returns-clause-whole g c =
    let w = c.in_ok-writer.writer in
    let made = c.in_ok-writer.ensures.made in
    on_ok _ _ c.write.result
    (λ x. (w.head.items, made.named, subst (λ (bs : List ℕ). IsPutWhole c.args.movie.now (g.K.Sink.takes c.args.sink.now c.write.new.sink) (bs ++ w.head.items)) made.empty x)) c.write.ensures.whole

pub returns-clause-unchanged : goal.returns-clause-unchanged
returns-clause-unchanged g c = λ told tree o.
    let unchanged = rw (c.in_ok-writer.ensures.store.honesty, c.in_ok-writer.ensures.store.file) at c.write.ensures.unchanged in
    unchanged told tree o (c.in_ok-writer.ensures.ready told tree o).0.ready

pub returns-clause-work : goal.returns-clause-work
returns-clause-work g c = λ told tree o.
    let work = rw (c.in_ok-writer.ensures.store.honesty, c.in_ok-writer.ensures.store.file) at c.write.ensures.work in
    let plan = c.in_ok-writer.ensures.work told tree o in
    let may = c.in_ok-writer.ensures.may told tree o in
    let writing = may.2 in
    let own = work told tree o may.0 may.1 in
    omega (arith, plan, writing, own)

pub returns-in_err-writer-clause-long : goal.returns-in_err-writer-clause-long
returns-in_err-writer-clause-long g c = λ told tree o.
    let p = err_from_is_err_and c.from_residual.result c.from_residual.ensures.1 in
    rw (p.1, p.2) (record { in_limits = tt; fault = c.in_err-writer.ensures.fault told tree o; nothing = λ long. g.met.K.Sink.takes_nothing c.args.sink.now; begun = plan_puts_nothing c.args.leaving _ _ c.in_err-writer.field-0.0 _ c.in_err-writer.ensures.refusal })

pub returns-clause-long : goal.returns-clause-long
returns-clause-long g c = λ told tree o.
    let file = g.S.Store.file c.args.store.now in
    let in_limits = (c.in_ok-writer.ensures.ready told tree o).1 in
    record {
      in_limits = so_if_ok c.write.result (RemainsInLimits c.args.leaving (presentation_of file tree)) in_limits;
      fault = carried_names c.args.leaving file tree c.write.result _ _ _ _ c.write.ensures.refusal;
      nothing = λ long. absurd (long in_limits);
      begun = so_if_err c.write.result _ in_limits;
    }

pub returns-clause-refusal : goal.returns-clause-refusal
returns-clause-refusal g c = carried_left c.args.leaving c.write.result (g.K.Sink.takes c.args.sink.now c.write.new.sink) _ _ _ _ (rw c.in_ok-writer.ensures.store.reads at c.write.ensures.refusal)

pub returns-clause-grows : goal.returns-clause-grows
returns-clause-grows g c =
    let planned = c.in_ok-writer.ensures.grows in
    on_ok_weaker c.write.result (λ more. omega (arith, planned, more)) c.write.ensures.steps.0
