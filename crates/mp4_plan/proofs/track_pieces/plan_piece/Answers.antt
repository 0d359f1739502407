use Rattle.std.proofs.Common.{rules, refl, sym, ap, subst, ◌∙◌, arith}
use Rattle.std.proofs.lemmas.Result.{err_from_is_err_and}
use Rattle.mp4_present.specs.words.Movies.{InHandOf}
use Rattle.mp4_plan.specs.words.Gathering.{Planning, planned_of, piece_from}
use Rattle.mp4_plan.proofs.PieceFed.{hand_fed, hand_ended, hand_full, next_fed, none_fed, feeds_new}
use Rattle.mp4_plan.proofs.HandsTaken.{few_more}
use Rattle.mp4_present.proofs.WayThrough.{takes_none}
use Rattle.mp4_content.proofs.CourseSteps.{keeps_before, loads_before, most_before, fails_before}
use Rattle.mp4_plan.proofs.track_pieces.plan_piece.Goals as goal

pub loop-planner-init : goal.loop-planner-init
loop-planner-init g c = record {
  walk = c.requires;
  room = refl;
  honesty = refl;
  file = refl;
  reads = refl;
  looks = refl;
  few = search rules;
  fed = λ told. feeds_new c.args.portion.reduction (g.S.Store.file c.args.store.now) c.args.movie.now c.args.walk.now c.args.portion.end c.new-planner.result c.new-planner.ensures;
  takes = λ told tree t n o h. takes_none (g.S.Store.file c.args.store.now) tree t n c.args.steps.now.passed c.args.walk.now h;
  grows = omega arith;
}

pub returns-in-Ended-clause-planned : goal.returns-in-Ended-clause-planned
returns-in-Ended-clause-planned g c told tree t samples o h =
    let i = c.loop-planner.invariant in
    let file = g.S.Store.file c.args.store.now in
    let fed = rw c.in-Ended.is at c.feed_hand-hand.ensures.fed in
    let r = hand_ended c.args.portion.reduction file c.args.movie.now c.args.walk.now c.loop-planner.walk c.keep.new.self _ _ c.loop-planner.planner c.feed_hand-hand.new.planner c.feed_hand-hand.result.place (i.fed told) fed c.keep.ensures.place tree t samples o h in
    (c.piece.ensures.is ∙ ap (λ (p : Planning). planned_of p.gathered) r.0, r.1)

pub returns-then-not-branch-clause-planned : goal.returns-then-not-branch-clause-planned
returns-then-not-branch-clause-planned g c told tree t samples o h =
    let i = c.loop-planner.invariant in
    let file = g.S.Store.file c.args.store.now in
    let m = c.args.movie.now in
    let place = c.feed_hand-hand.result.place in
    let planner = c.feed_hand-hand.new.planner in
    let fed = rw c.in-Empty.is at c.feed_hand-hand.ensures.fed in
    let on = hand_fed c.args.portion.reduction file m c.args.walk.now c.loop-planner.walk c.keep.new.self _ _ c.loop-planner.planner planner place (i.fed told) fed c.keep.ensures.place in
    let is_hand = subst (λ w. InHandOf m w fed.later) (sym c.keep.ensures.place) fed.is_later in
    let l = c.in_ok-load-in-Empty.ensures in
    let r = none_fed c.args.portion.reduction file m c.args.walk.now c.keep.new.self c.load.new.self _ planner fed.later c.in_ok-load-in-Empty.field-0 on is_hand fed.taken.2 ((rw (i.honesty, i.file) at l.loaded) told) c.if-not-branch.true
    ((rw (i.honesty, i.file) at l.answer.1) told) tree t samples o h in
    (c.piece-then-not-branch.ensures.is ∙ ap (λ (p : Planning). planned_of p.gathered) r.0, r.1)

pub loop-planner-preserved : goal.loop-planner-preserved
loop-planner-preserved g c =
    let i = c.loop-planner.invariant in
    let l = c.in_ok-load-in-Empty.ensures in
    record {
      walk = l.walk.walk;
      room = search rules;
      honesty = l.store.honesty ∙ i.honesty;
      file = l.store.file ∙ i.file;
      reads = l.store.reads ∙ i.reads;
      looks = search rules;
      few = c.feed_hand-hand.ensures.few;
      fed = λ told.
          let file = g.S.Store.file c.args.store.now in
          let m = c.args.movie.now in
          let place = c.feed_hand-hand.result.place in
          let planner = c.feed_hand-hand.new.planner in
          let fed = rw c.in-Empty.is at c.feed_hand-hand.ensures.fed in
          let on = hand_fed c.args.portion.reduction file m c.args.walk.now c.loop-planner.walk c.keep.new.self _ _ c.loop-planner.planner planner place (i.fed told) fed c.keep.ensures.place in
          let is_hand = subst (λ w. InHandOf m w fed.later) (sym c.keep.ensures.place) fed.is_later in
          next_fed c.args.portion.reduction file m c.args.walk.now c.keep.new.self c.load.new.self _ planner fed.later c.in_ok-load-in-Empty.field-0 on is_hand fed.taken.2 ((rw (i.honesty, i.file) at l.loaded) told) (search rules);
      takes = λ told.
          let file = g.S.Store.file c.args.store.now in
          let m = c.args.movie.now in
          let kept = keeps_before file m c.args.walk.now c.loop-planner.walk _ _ (i.takes told) c.feed_hand-hand.result.place c.keep.new.self _ c.feed_hand-hand.ensures.keeps c.keep.ensures.place c.keep.ensures.work in
          loads_before file m c.args.walk.now c.keep.new.self _ _ kept c.load.new.self _ ((rw (i.honesty, i.file) at l.work) told);
      grows = (let kept = c.keep.ensures.work in let loaded = l.grows in let so = i.grows in omega (arith, kept, loaded, so));
    }

pub returns-in_err-load-in-Empty-clause-unchanged : goal.returns-in_err-load-in-Empty-clause-unchanged
returns-in_err-load-in-Empty-clause-unchanged g c told tree t samples o h few =
    let p = err_from_is_err_and c.from_residual.result c.from_residual.ensures.1 in
    let i = c.loop-planner.invariant in
    let fed = rw c.in-Empty.is at c.feed_hand-hand.ensures.fed in
    let on = hand_fed c.args.portion.reduction (g.S.Store.file c.args.store.now) c.args.movie.now c.args.walk.now c.loop-planner.walk c.keep.new.self _ _ c.loop-planner.planner c.feed_hand-hand.new.planner c.feed_hand-hand.result.place (i.fed told) fed c.keep.ensures.place in
    let k = (on tree t samples o h).comes.comes in
    rw (p.1, p.2) ((rw (i.honesty, i.file) at c.in_err-load-in-Empty.ensures.loaded) told tree t k.0 k.1 o k.3.0)

pub returns-in-Full-clause-unchanged : goal.returns-in-Full-clause-unchanged
returns-in-Full-clause-unchanged g c told tree t samples o h few =
    let i = c.loop-planner.invariant in
    let file = g.S.Store.file c.args.store.now in
    let fed = rw c.in-Full.is at c.feed_hand-hand.ensures.fed in
    let full = hand_full c.args.portion.reduction file c.args.movie.now c.args.walk.now c.loop-planner.walk _ _ c.loop-planner.planner c.feed_hand-hand.new.planner c.feed_hand-hand.result.place (i.fed told) fed tree t samples o h in
    λ e. absurd (omega (arith, full, few, i.few, few_more (piece_from c.args.portion.end) samples))

pub returns-in-Ended-clause-work : goal.returns-in-Ended-clause-work
returns-in-Ended-clause-work g c told tree t n o h =
    let i = c.loop-planner.invariant in
    let file = g.S.Store.file c.args.store.now in
    let m = c.args.movie.now in
    keeps_before file m c.args.walk.now c.loop-planner.walk _ _ (i.takes told) c.feed_hand-hand.result.place c.keep.new.self _ c.feed_hand-hand.ensures.keeps c.keep.ensures.place c.keep.ensures.work tree t n o h

pub returns-then-not-branch-clause-work : goal.returns-then-not-branch-clause-work
returns-then-not-branch-clause-work g c told tree t n o h =
    let i = c.loop-planner.invariant in
    let file = g.S.Store.file c.args.store.now in
    let m = c.args.movie.now in
    let kept = keeps_before file m c.args.walk.now c.loop-planner.walk _ _ (i.takes told) c.feed_hand-hand.result.place c.keep.new.self _ c.feed_hand-hand.ensures.keeps c.keep.ensures.place c.keep.ensures.work in
    loads_before file m c.args.walk.now c.keep.new.self _ _ kept c.load.new.self _ ((rw (i.honesty, i.file) at c.in_ok-load-in-Empty.ensures.work) told) tree t n o h

pub returns-in-Full-clause-work : goal.returns-in-Full-clause-work
returns-in-Full-clause-work g c told tree t n o h =
    let i = c.loop-planner.invariant in
    let file = g.S.Store.file c.args.store.now in
    let m = c.args.movie.now in
    let kept = keeps_before file m c.args.walk.now c.loop-planner.walk _ _ (i.takes told) c.feed_hand-hand.result.place c.keep.new.self _ c.feed_hand-hand.ensures.keeps c.keep.ensures.place c.keep.ensures.work in
    most_before file m c.args.walk.now c.keep.new.self _ _ kept tree t n o h

pub returns-in_err-load-in-Empty-clause-work : goal.returns-in_err-load-in-Empty-clause-work
returns-in_err-load-in-Empty-clause-work g c told tree t n o h =
    let p = err_from_is_err_and c.from_residual.result c.from_residual.ensures.1 in
    let i = c.loop-planner.invariant in
    let file = g.S.Store.file c.args.store.now in
    let m = c.args.movie.now in
    let kept = keeps_before file m c.args.walk.now c.loop-planner.walk _ _ (i.takes told) c.feed_hand-hand.result.place c.keep.new.self _ c.feed_hand-hand.ensures.keeps c.keep.ensures.place c.keep.ensures.work in
    rw p.1 (fails_before file m c.args.walk.now c.keep.new.self _ _ kept _ ((rw (i.honesty, i.file) at c.in_err-load-in-Empty.ensures.work) told) tree t n o h)
