use Rattle.std.proofs.lemmas.Result.{err_from_is_err_and}
use Rattle.mp4_present.proofs.WayThrough.{takes_then, takes_most}
use Rattle.mp4_present.proofs.walking.Walk.next_sample.Goals as goal

pub returns-in_err-refill-clause-unchanged : goal.returns-in_err-refill-clause-unchanged
returns-in_err-refill-clause-unchanged g c =
    let p = err_from_is_err_and c.from_residual.result c.from_residual.ensures.1 in
    rw (p.1, p.2) (λ told tree t samples o h some. c.in_err-refill.ensures.unchanged told tree t samples o h some)

pub returns-in_err-refill-clause-work : goal.returns-in_err-refill-clause-work
returns-in_err-refill-clause-work g c =
    let p = err_from_is_err_and c.from_residual.result c.from_residual.ensures.1 in
    rw p.1 (λ told tree t n o h. c.in_err-refill.ensures.work told tree t n o h)

pub returns-in-Some-clause-next : goal.returns-in-Some-clause-next
returns-in-Some-clause-next g c told tree t samples o h =
    c.in-Some.ensures.takes (g.S.Store.file c.args.store.now) tree t samples (c.in_ok-refill.ensures.coming told tree t samples o h)

pub returns-in-Some-clause-work : goal.returns-in-Some-clause-work
returns-in-Some-clause-work g c told tree t n o h =
    let file = g.S.Store.file c.args.store.now in
    takes_then file tree t n c.args.steps.now.passed _ _ c.refill.new.self c.take_in_hand.new.self (c.in_ok-refill.ensures.work told tree t n o h) (λ q may. c.take_in_hand.ensures.work file tree t q o may)

pub returns-in-None-clause-unchanged : goal.returns-in-None-clause-unchanged
returns-in-None-clause-unchanged g c told tree t samples o h some e = c.take_in_hand.ensures.some c.in_ok-refill.ensures.some c.in-None.is

pub returns-in-None-clause-work : goal.returns-in-None-clause-work
returns-in-None-clause-work g c told tree t n o h =
    let file = g.S.Store.file c.args.store.now in
    takes_most file tree t n c.args.steps.now.passed _ c.take_in_hand.new.self
    (takes_then file tree t n c.args.steps.now.passed _ _ c.refill.new.self c.take_in_hand.new.self (c.in_ok-refill.ensures.work told tree t n o h) (λ q may. c.take_in_hand.ensures.work file tree t q o may))
