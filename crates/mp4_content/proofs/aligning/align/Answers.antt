use Rattle.std.proofs.Common.{arith}
use Rattle.std.proofs.lemmas.Result.{err_from_is_err_and}
use Rattle.mp4_content.proofs.aligning.align.Goals as goal

pub returns-clause-aligned : goal.returns-clause-aligned
returns-clause-aligned g c told told_right tree other o p =
    let e = c.in_ok-scales.ensures in
    let s = e.scales told told_right tree other o p in
    (rw (e.stores.left.honesty, e.stores.left.file, e.stores.right.honesty, e.stores.right.file) at c.align_scaled.ensures.aligned) told told_right tree other o p s.0 s.1

pub returns-clause-unchanged : goal.returns-clause-unchanged
returns-clause-unchanged g c told told_right tree other o p =
    let e = c.in_ok-scales.ensures in
    (rw (e.stores.left.honesty, e.stores.left.file, e.stores.right.honesty, e.stores.right.file) at c.align_scaled.ensures.unchanged) told told_right tree other o p

pub returns-clause-work : goal.returns-clause-work
returns-clause-work g c told told_right tree other o p =
    let e = c.in_ok-scales.ensures in
    let first = e.work told told_right tree other o p in
    let then = (rw (e.stores.left.honesty, e.stores.left.file, e.stores.right.honesty, e.stores.right.file) at c.align_scaled.ensures.work) told told_right tree other o p in
    omega (arith, first, then)

pub returns-in_err-scales-clause-unchanged : goal.returns-in_err-scales-clause-unchanged
returns-in_err-scales-clause-unchanged g c told told_right tree other o q =
    let p = err_from_is_err_and c.from_residual.result c.from_residual.ensures.1 in
    rw (p.1, p.2) (c.in_err-scales.ensures.unchanged told told_right tree other o q)
