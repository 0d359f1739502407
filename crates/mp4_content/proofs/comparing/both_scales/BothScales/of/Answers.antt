use Rattle.std.proofs.Common.{arith}
use Rattle.std.proofs.lemmas.Result.{err_from_is_err_and}
use Rattle.mp4_content.proofs.comparing.both_scales.BothScales.of.Goals as goal

pub returns-clause-scales : goal.returns-clause-scales
returns-clause-scales g c told told_right tree other o p = (c.in_ok-first.ensures.scales told tree o, c.in_ok-second.ensures.scales told_right other p)

pub returns-clause-work : goal.returns-clause-work
returns-clause-work g c told told_right tree other o p =
    let first = c.in_ok-first.ensures.work told tree o in
    let second = c.in_ok-second.ensures.work told_right other p in
    omega (arith, first, second)

pub returns-in_err-first-clause-unchanged : goal.returns-in_err-first-clause-unchanged
returns-in_err-first-clause-unchanged g c told told_right tree other o q =
    let p = err_from_is_err_and c.from_residual.result c.from_residual.ensures.1 in
    rw (p.1, p.2) (c.in_err-first.ensures.unchanged told tree o)

pub returns-in_err-second-clause-unchanged : goal.returns-in_err-second-clause-unchanged
returns-in_err-second-clause-unchanged g c told told_right tree other o q =
    let p = err_from_is_err_and c.from_residual-in_err-second.result c.from_residual-in_err-second.ensures.1 in
    rw (p.1, p.2) (c.in_err-second.ensures.unchanged told_right other q)

pub returns-in_err-second-clause-work : goal.returns-in_err-second-clause-work
returns-in_err-second-clause-work g c told told_right tree other o q =
    let first = c.in_ok-first.ensures.work told tree o in
    let second = c.in_err-second.ensures.work told_right other q in
    omega (arith, first, second)
