use Rattle.std.proofs.Common.{arith}
use Rattle.std.proofs.lemmas.Result.{err_from_is_err_and}
use Rattle.mp4_content.proofs.content.Content.of.Goals as goal

pub returns-in_err-of_tracks-clause-unchanged : goal.returns-in_err-of_tracks-clause-unchanged
returns-in_err-of_tracks-clause-unchanged g c told tree o =
    let p = err_from_is_err_and c.from_residual-in_err-of_tracks.result c.from_residual-in_err-of_tracks.ensures.1 in
    let e = c.in_ok-scales.ensures in
    rw (p.1, p.2) ((rw (e.store.honesty, e.store.file) at c.in_err-of_tracks.ensures.unchanged) told tree o)

pub returns-in_err-of_tracks-clause-work : goal.returns-in_err-of_tracks-clause-work
returns-in_err-of_tracks-clause-work g c told tree o =
    let e = c.in_ok-scales.ensures in
    let first = e.work told tree o in
    let more = (rw (e.store.honesty, e.store.file) at c.in_err-of_tracks.ensures.work) told tree o in
    omega (arith, first, more)

pub returns-in_err-length-clause-fault : goal.returns-in_err-length-clause-fault
returns-in_err-length-clause-fault g c told tree o =
    let p = err_from_is_err_and c.from_residual-in_err-length.result c.from_residual-in_err-length.ensures.1 in
    let e = c.in_ok-scales.ensures in
    let file = g.S.Store.file c.args.store.now in
    let scales = e.scales told tree o in
    let all = (rw (e.store.honesty, e.store.file) at c.in_ok-of_tracks.ensures.measured) told tree o scales in
    rw (p.1, p.2) ((rw c.as_slice.ensures.value at c.in_err-length.ensures.fault) file tree o scales all.totals)

pub returns-in_err-length-clause-work : goal.returns-in_err-length-clause-work
returns-in_err-length-clause-work g c told tree o =
    let e = c.in_ok-scales.ensures in
    let first = e.work told tree o in
    let more = (rw (e.store.honesty, e.store.file) at c.in_ok-of_tracks.ensures.work) told tree o in
    omega (arith, first, more)

pub returns-in_err-tracks-clause-work : goal.returns-in_err-tracks-clause-work
returns-in_err-tracks-clause-work g c told tree o =
    let e = c.in_ok-scales.ensures in
    let first = e.work told tree o in
    let more = (rw (e.store.honesty, e.store.file) at c.in_ok-of_tracks.ensures.work) told tree o in
    omega (arith, first, more)

pub returns-clause-work : goal.returns-clause-work
returns-clause-work g c told tree o =
    let e = c.in_ok-scales.ensures in
    let first = e.work told tree o in
    let more = (rw (e.store.honesty, e.store.file) at c.in_ok-of_tracks.ensures.work) told tree o in
    omega (arith, first, more)

pub returns-clause-left : goal.returns-clause-left
returns-clause-left g c told tree o =
    let e = c.in_ok-scales.ensures in
    let file = g.S.Store.file c.args.store.now in
    let scales = e.scales told tree o in
    let all = (rw (e.store.honesty, e.store.file) at c.in_ok-of_tracks.ensures.measured) told tree o scales in
    let left = (rw c.as_slice.ensures.value at c.in_ok-length.ensures.left) file tree o scales all.totals in
    record { scales = scales; reductions = all.reductions; in_limits = left.0; length = left.1 }

pub returns-in_err-scales-clause-unchanged : goal.returns-in_err-scales-clause-unchanged
returns-in_err-scales-clause-unchanged g c told tree o =
    let p = err_from_is_err_and c.from_residual.result c.from_residual.ensures.1 in
    rw (p.1, p.2) (c.in_err-scales.ensures.unchanged told tree o)
