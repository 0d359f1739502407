use Rattle.std.proofs.Common.{List, sym, ap, subst, ◌∙◌}
use Rattle.std.specs.Prelude.{slice_get}
use Rattle.std.proofs.lemmas.Result.{err_from_is_err_and}
use Rattle.mp4_tables.specs.declared.sample.SampleAt.{SampleAt}
use Rattle.mp4_content.specs.words.ComingLess.{ComesLess}
use Rattle.mp4_present.proofs.WayThrough.{takes_none}
use Rattle.mp4_plan.specs.words.Gathering.{Planning, planned_of, piece_from, samples_after}
use Rattle.mp4_plan.proofs.NextSamples.{none_goes}
use Rattle.mp4_plan.proofs.PlannerSteps.{fed_none, after_none}
use Rattle.mp4_plan.proofs.StepsOn.{then_takes, then_stops}
use Rattle.mp4_plan.proofs.track_pieces.plan_turn.Goals as goal

pub returns-then-not-first_goes-clause-planned : goal.returns-then-not-first_goes-clause-planned
returns-then-not-first_goes-clause-planned g c told tree t samples o h first =
    let file = g.S.Store.file c.args.store.now in
    let none = none_goes c.args.portion.end samples c.args.next.now c.first_goes.result first c.first_goes.ensures c.if-not-first_goes.true in
    let fed = fed_none (piece_from c.args.portion.end) samples none in
    let after = after_none (piece_from c.args.portion.end) samples none in (
      c.piece.ensures.is ∙ ap (λ (p : Planning). planned_of p.gathered) (c.new.ensures ∙ sym fed),
      subst (λ (ss : List SampleAt). ComesLess c.args.portion.reduction file tree t c.args.movie.now c.args.walk.now ss) (sym after) h,
      first ∙ ap (λ (ss : List SampleAt). slice_get ss 0) (sym after),
    )

pub returns-then-not-first_goes-clause-work : goal.returns-then-not-first_goes-clause-work
returns-then-not-first_goes-clause-work g c told tree t n o h = takes_none (g.S.Store.file c.args.store.now) tree t n c.args.steps.now.passed c.args.walk.now h

pub returns-in_err-planned-clause-unchanged : goal.returns-in_err-planned-clause-unchanged
returns-in_err-planned-clause-unchanged g c told tree t samples o h few =
    let e = err_from_is_err_and c.from_residual.result c.from_residual.ensures.1 in
    rw (e.1, e.2) (c.in_err-planned.ensures.unchanged told tree t samples o h few)

pub returns-in_err-planned-clause-work : goal.returns-in_err-planned-clause-work
returns-in_err-planned-clause-work g c told tree t n o h =
    let e = err_from_is_err_and c.from_residual.result c.from_residual.ensures.1 in
    rw e.1 (c.in_err-planned.ensures.work told tree t n o h)

pub returns-in_err-next-clause-unchanged : goal.returns-in_err-next-clause-unchanged
returns-in_err-next-clause-unchanged g c told tree t samples o h few =
    let e = err_from_is_err_and c.from_residual-in_err-next.result c.from_residual-in_err-next.ensures.1 in
    let p = c.in_ok-planned.ensures in
    let planned = p.planned told tree t samples o h in
    rw (e.1, e.2) ((rw (p.loads.store.honesty, p.loads.store.file) at c.in_err-next.ensures.unchanged) told tree t (samples_after (piece_from c.args.portion.end) samples) o planned.1)

pub returns-in_err-next-clause-work : goal.returns-in_err-next-clause-work
returns-in_err-next-clause-work g c told tree t n o h =
    let e = err_from_is_err_and c.from_residual-in_err-next.result c.from_residual-in_err-next.ensures.1 in
    let p = c.in_ok-planned.ensures in
    let file = g.S.Store.file c.args.store.now in
    rw e.1 (then_stops file tree t n _ c.plan_piece.new.walk _ _ (p.work told tree t n o h) (λ left more. (rw (p.loads.store.honesty, p.loads.store.file) at c.in_err-next.ensures.work) told tree t left o more))

pub returns-clause-planned : goal.returns-clause-planned
returns-clause-planned g c told tree t samples o h first =
    let p = c.in_ok-planned.ensures in
    let planned = p.planned told tree t samples o h in
    let next = (rw (p.loads.store.honesty, p.loads.store.file) at c.in_ok-next.ensures.coming) told tree t (samples_after (piece_from c.args.portion.end) samples) o planned.1 in
    (planned.0, next.0, next.1)

pub returns-clause-work : goal.returns-clause-work
returns-clause-work g c told tree t n o h =
    let p = c.in_ok-planned.ensures in
    let file = g.S.Store.file c.args.store.now in
    then_takes file tree t n _ c.plan_piece.new.walk c.next_sample.new.walk _ _ (p.work told tree t n o h) (λ left more. (rw (p.loads.store.honesty, p.loads.store.file) at c.in_ok-next.ensures.work) told tree t left o more)
