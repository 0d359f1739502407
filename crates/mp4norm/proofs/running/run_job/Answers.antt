use Rattle.std.proofs.Common.{inr}
use Rattle.std.proofs.lemmas.Result.{err_from_is_err_and}
use Rattle.mp4norm.proofs.JobRuns.{between, fits, job_puts_on, not_opened, on_any, settled_ok}
use Rattle.mp4norm.proofs.running.run_job.Goals as goal

pub returns-in-Ok-clause-whole : goal.returns-in-Ok-clause-whole
returns-in-Ok-clause-whole g c =
    let whole = settled_ok _ c.perform-answer.result c.settled.result c.in-Ok.field-0 c.settled.ensures c.in-Ok.is c.perform-answer.ensures.whole in
    on_any c.close.result (job_puts_on c.args.job _ _ (between g.met.K.Sink.takes_on _ _ _ _ c.open_for.ensures.nothing c.close.ensures.nothing) whole)

pub returns-in-Ok-clause-short : goal.returns-in-Ok-clause-short
returns-in-Ok-clause-short g c = on_any c.close.result (λ told. fits c.args.most c.in_ok-len.len c.args.job _ (c.in_ok-len.ensures.length told) c.in_ok-open_for.ensures.short)

pub returns-in_err-open_for-clause-answer : goal.returns-in_err-open_for-clause-answer
returns-in_err-open_for-clause-answer g c =
    let p = err_from_is_err_and c.from_residual-in_err-open_for.result c.from_residual-in_err-open_for.ensures.1 in
    rw (p.1, p.2) (inr (c.open_for.ensures.nothing, inr (not_opened g.S.Store c.args.store.now c.args.most c.in_ok-len.len c.args.job _ _ c.in_ok-len.ensures.length c.in_err-open_for.ensures.refusal)))
