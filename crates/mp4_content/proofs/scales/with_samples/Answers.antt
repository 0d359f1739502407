use Rattle.std.proofs.lemmas.Result.{err_from_is_err_and}
use Rattle.mp4_content.proofs.SampleTimes.{all_divided}
use Rattle.mp4_content.proofs.scales.with_samples.Goals as goal

pub returns-clause-divisor : goal.returns-clause-divisor
returns-clause-divisor g c told tree t samples o k =
    all_divided _ _ samples (c.in_ok-fold_samples.ensures.added told tree t samples o k)

pub returns-in_err-fold_samples-clause-unchanged : goal.returns-in_err-fold_samples-clause-unchanged
returns-in_err-fold_samples-clause-unchanged g c told tree t samples o k =
    let p = err_from_is_err_and c.from_residual.result c.from_residual.ensures.1 in
    rw (p.1, p.2) (c.in_err-fold_samples.ensures.unchanged told tree t samples o k)
