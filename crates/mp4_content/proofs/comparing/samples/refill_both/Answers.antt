use Rattle.std.proofs.lemmas.Result.{err_from_is_err_and}
use Rattle.mp4_content.proofs.PairsCompared.{some_there, first_most, both_take, second_most}
use Rattle.mp4_content.proofs.comparing.samples.refill_both.Goals as goal

pub returns-in_err-refill-clause-unchanged : goal.returns-in_err-refill-clause-unchanged
returns-in_err-refill-clause-unchanged g c told told_right tree other o p t u xs ys hx hy lx ly =
    let e = err_from_is_err_and c.from_residual.result c.from_residual.ensures.1 in
    rw (e.1, e.2) (c.in_err-refill.ensures.unchanged told tree t xs o hx (some_there (g.S.Store.file c.args.left.now) xs lx))

pub returns-in_err-refill-clause-work : goal.returns-in_err-refill-clause-work
returns-in_err-refill-clause-work g c told told_right tree other o p t u n m hx hy =
    let e = err_from_is_err_and c.from_residual.result c.from_residual.ensures.1 in
    rw e.1 (first_most n m c.args.steps.now.passed _ (c.in_err-refill.ensures.work told tree t n o hx))

pub returns-in_err-refill-2-clause-unchanged : goal.returns-in_err-refill-2-clause-unchanged
returns-in_err-refill-2-clause-unchanged g c told told_right tree other o p t u xs ys hx hy lx ly =
    let e = err_from_is_err_and c.from_residual-in_err-refill-2.result c.from_residual-in_err-refill-2.ensures.1 in
    rw (e.1, e.2) (c.in_err-refill-2.ensures.unchanged told_right other u ys p hy (some_there (g.T.Store.file c.args.right.now) ys ly))

pub returns-in_err-refill-2-clause-work : goal.returns-in_err-refill-2-clause-work
returns-in_err-refill-2-clause-work g c told told_right tree other o p t u n m hx hy =
    let e = err_from_is_err_and c.from_residual-in_err-refill-2.result c.from_residual-in_err-refill-2.ensures.1 in
    rw e.1 (second_most (g.S.Store.file c.args.left.now) tree t c.refill.new.self (g.T.Store.file c.args.right.now) other u c.args.sides.now.right.walk n m c.args.steps.now.passed _ _ (c.in_ok-refill.ensures.work told tree t n o hx) (c.in_err-refill-2.ensures.work told_right other u m p hy))

pub returns-clause-coming : goal.returns-clause-coming
returns-clause-coming g c told told_right tree other o p t u xs ys hx hy =
    (c.in_ok-refill.ensures.coming told tree t xs o hx, c.in_ok-refill-2.ensures.coming told_right other u ys p hy)

pub returns-clause-work : goal.returns-clause-work
returns-clause-work g c told told_right tree other o p t u n m hx hy =
    both_take (g.S.Store.file c.args.left.now) tree t c.refill.new.self (g.T.Store.file c.args.right.now) other u c.refill-2.new.self n m c.args.steps.now.passed _ _ (c.in_ok-refill.ensures.work told tree t n o hx) (c.in_ok-refill-2.ensures.work told_right other u m p hy)
