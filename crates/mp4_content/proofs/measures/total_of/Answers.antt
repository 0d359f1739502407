use Rattle.std.proofs.lemmas.Result.{err_from_is_err_and}
use Rattle.mp4_content.proofs.Measured.{all_measured}
use Rattle.mp4_content.proofs.measures.total_of.Goals as goal

pub returns-clause-total : goal.returns-clause-total
returns-clause-total g c told tree t samples o k =
    all_measured _ _ samples (c.in_ok-fold_samples.ensures.added told tree t samples o k)

pub returns-in_err-fold_samples-clause-unchanged : goal.returns-in_err-fold_samples-clause-unchanged
returns-in_err-fold_samples-clause-unchanged g c told tree t samples o k =
    let p = err_from_is_err_and c.from_residual.result c.from_residual.ensures.1 in
    rw (p.1, p.2) (c.in_err-fold_samples.ensures.unchanged told tree t samples o k)
