use Rattle.std.proofs.Common.{arith}
use Rattle.std.proofs.lemmas.Result.{err_from_is_err_and}
use Rattle.mp4_store.proofs.Known.{TakesPrefix-nothing}
use Rattle.mp4_present.proofs.WalkCopied.{on_ok}
use Rattle.mp4_plan.proofs.CarriedLess.{carried_less, comes_less, prefix_less, there_less}
use Rattle.mp4_plan.proofs.LeftRefused.{on_both}
use Rattle.mp4_plan.proofs.WritingSteps.{gone_past}
use Rattle.mp4_plan.proofs.carrying.carry_again.Goals as goal

pub returns-in_err-go_back-clause-put : goal.returns-in_err-go_back-clause-put
returns-in_err-go_back-clause-put g c l told tree t samples o h =
    let p = err_from_is_err_and c.from_residual.result c.from_residual.ensures.1 in
    rw p.1 (TakesPrefix-nothing (g.K.Sink.takes c.args.sink.now c.args.sink.now) (g.met.K.Sink.takes_nothing c.args.sink.now) _)

pub returns-in_err-go_back-clause-unchanged : goal.returns-in_err-go_back-clause-unchanged
returns-in_err-go_back-clause-unchanged g c l told tree t samples o h there =
    let p = err_from_is_err_and c.from_residual.result c.from_residual.ensures.1 in
    rw (p.1, p.2) (c.in_err-go_back.ensures.back told tree t h.begun h.samples o h.back h.from)

pub returns-in_err-go_back-clause-work : goal.returns-in_err-go_back-clause-work
returns-in_err-go_back-clause-work g c told tree t begun before own o back may =
    let p = err_from_is_err_and c.from_residual.result c.from_residual.ensures.1 in
    let most = c.in_err-go_back.ensures.work told tree t begun before own o back may in
    rw p.1 (omega (arith, most))

pub returns-clause-put : goal.returns-clause-put
returns-clause-put g c l told tree t samples o h =
    let file = g.S.Store.file c.args.store.now in
    let m = c.args.movie.now in
    let b = c.in_ok-go_back.ensures in
    let back = b.back told tree t h.begun h.samples o h.back h.from in
    on_both c.carry_piece.result (carried_less l file tree t m c.args.walk.now c.args.load.samples samples h (g.K.Sink.takes c.args.sink.now c.carry_piece.new.sink) _ _)
    (prefix_less l file tree t m c.args.walk.now c.args.load.samples samples h (g.K.Sink.takes c.args.sink.now c.carry_piece.new.sink) _)
    ((rw (b.store.honesty, b.store.file) at c.carry_piece.ensures.put) told tree t h.samples o back)

pub returns-clause-comes : goal.returns-clause-comes
returns-clause-comes g c l told tree t samples o h =
    let file = g.S.Store.file c.args.store.now in
    let m = c.args.movie.now in
    let b = c.in_ok-go_back.ensures in
    let back = b.back told tree t h.begun h.samples o h.back h.from in
    on_ok _ _ c.carry_piece.result (comes_less l file tree t m c.args.walk.now c.args.load.samples samples h c.carry_piece.new.walk) ((rw (b.store.honesty, b.store.file) at c.carry_piece.ensures.comes) told tree t h.samples o back)

pub returns-clause-unchanged : goal.returns-clause-unchanged
returns-clause-unchanged g c l told tree t samples o h there =
    let file = g.S.Store.file c.args.store.now in
    let m = c.args.movie.now in
    let b = c.in_ok-go_back.ensures in
    let back = b.back told tree t h.begun h.samples o h.back h.from in
    (rw (b.store.honesty, b.store.file) at c.carry_piece.ensures.unchanged) told tree t h.samples o back (there_less l file tree t m c.args.walk.now c.args.load.samples samples h c.args.load.bytes there)

pub returns-clause-work : goal.returns-clause-work
returns-clause-work g c told tree t begun before own o back may =
    let b = c.in_ok-go_back.ensures in
    let k = b.work told tree t begun before own o back may in
    let one = k.2 in
    on_both c.carry_piece.result (λ x. (let two = x.2 in (x.0, x.1, omega (arith, one, two)))) (λ x. omega (arith, one, x)) ((rw (b.store.honesty, b.store.file) at c.carry_piece.ensures.work) told tree t k.0 o k.1)

pub returns-clause-ahead : goal.returns-clause-ahead
returns-clause-ahead g c = on_ok _ _ c.carry_piece.result (λ x. gone_past c.args.movie.now c.go_back.new.self c.carry_piece.new.walk _ c.in_ok-go_back.ensures.mark.1.next x.ahead) c.carry_piece.ensures.went
