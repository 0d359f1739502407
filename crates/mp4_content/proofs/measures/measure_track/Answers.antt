use Rattle.std.proofs.Common.{refl, arith}
use Rattle.std.proofs.lemmas.Result.{err_from_is_err_and}
use Rattle.mp4_present.specs.words.SamplesComing.{track_samples}
use Rattle.mp4_content.proofs.measures.measure_track.Goals as goal

pub returns-in_err-reduction-clause-unchanged : goal.returns-in_err-reduction-clause-unchanged
returns-in_err-reduction-clause-unchanged g c told tree t o is =
    let p = err_from_is_err_and c.from_residual-in_err-reduction.result c.from_residual-in_err-reduction.ensures.1 in
    rw (p.1, p.2) (c.in_err-reduction.ensures.unchanged told tree t (track_samples tree t) o (c.in_ok-walk.ensures.coming (g.S.Store.file c.args.store.now) tree t o is))

pub returns-in_err-reduction-clause-work : goal.returns-in_err-reduction-clause-work
returns-in_err-reduction-clause-work g c told tree t o is =
    let may = c.in_ok-walk.ensures.may (g.S.Store.file c.args.store.now) tree t o is in
    let few = may.2 in
    let most = c.in_err-reduction.ensures.work told tree t may.0 o may.1 in
    omega (arith, few, most)

pub returns-in_err-total-clause-unchanged : goal.returns-in_err-total-clause-unchanged
returns-in_err-total-clause-unchanged g c told tree t o is =
    let p = err_from_is_err_and c.from_residual-in_err-total.result c.from_residual-in_err-total.ensures.1 in
    let e = c.in_ok-reduction.ensures in
    let comes = e.coming told tree t (track_samples tree t) o (c.in_ok-walk.ensures.coming (g.S.Store.file c.args.store.now) tree t o is) in
    rw (p.1, p.2) ((rw (e.store.honesty, e.store.file) at c.in_err-total.ensures.unchanged) told tree t (track_samples tree t) o comes)

pub returns-in_err-total-clause-work : goal.returns-in_err-total-clause-work
returns-in_err-total-clause-work g c told tree t o is =
    let e = c.in_ok-reduction.ensures in
    let may = c.in_ok-walk.ensures.may (g.S.Store.file c.args.store.now) tree t o is in
    let few = may.2 in
    let on = e.work told tree t may.0 o may.1 in
    let within = on.2 in
    let most = (rw (e.store.honesty, e.store.file) at c.in_err-total.ensures.work) told tree t on.0 o on.1 in
    omega (arith, few, within, most)

pub returns-clause-measured : goal.returns-clause-measured
returns-clause-measured g c told tree t o is =
    let e = c.in_ok-reduction.ensures in
    let samples = track_samples tree t in
    let comes = c.in_ok-walk.ensures.coming (g.S.Store.file c.args.store.now) tree t o is in (
      e.reduction told tree t samples o comes refl,
      (rw (e.store.honesty, e.store.file) at c.in_ok-total.ensures.total) told tree t samples o (e.coming told tree t samples o comes),
    )

pub returns-clause-work : goal.returns-clause-work
returns-clause-work g c told tree t o is =
    let e = c.in_ok-reduction.ensures in
    let may = c.in_ok-walk.ensures.may (g.S.Store.file c.args.store.now) tree t o is in
    let few = may.2 in
    let on = e.work told tree t may.0 o may.1 in
    let within = on.2 in
    let most = (rw (e.store.honesty, e.store.file) at c.in_ok-total.ensures.work) told tree t on.0 o on.1 in
    omega (arith, few, within, most)
