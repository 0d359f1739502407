use Rattle.std.proofs.Common.{rules, ◌≡◌, None, refl, sym, subst, ◌∙◌, arith}
use Rattle.std.proofs.lemmas.Result.{err_from_is_err_and}
use Rattle.mp4_present.specs.words.Movies.{InHandOf}
use Rattle.mp4_present.proofs.WayThrough.{takes_none}
use Rattle.mp4_plan.specs.words.Ends.{goes_in}
use Rattle.mp4_plan.proofs.HandsCounted.{counts_new, hand_counted, count_ended, count_full, count_empty, next_counted, none_counted}
use Rattle.mp4_content.proofs.CourseSteps.{keeps_before, loads_before, most_before, fails_before}
use Rattle.mp4_plan.proofs.counting.count_piece.Goals as goal

pub loop-sample-init : goal.loop-sample-init
loop-sample-init g c = record {
  walk = c.requires;
  room = refl;
  honesty = refl;
  file = refl;
  reads = refl;
  looks = refl;
  few = omega arith;
  counts = λ told. counts_new c.args.portion.reduction (g.S.Store.file c.args.store.now) c.args.movie.now c.args.walk.now (goes_in c.args.portion.end c.args.description);
  takes = λ told tree t n o h. takes_none (g.S.Store.file c.args.store.now) tree t n c.args.steps.now.passed c.args.walk.now h;
  grows = omega arith;
}

pub returns-then-goes_in-clause-unchanged : goal.returns-then-goes_in-clause-unchanged
returns-then-goes_in-clause-unchanged g c told tree t samples o h few =
    let i = c.loop-sample.invariant in
    let within = i.few in
    let full = count_full c.args.portion.reduction (g.S.Store.file c.args.store.now) c.args.movie.now c.args.walk.now c.loop-sample.walk c.keep.new.self (goes_in c.args.portion.end c.args.description) _ c.loop-sample.count c.count_hand-hand.result.count
    c.count_hand-hand.result.next c.count_hand-hand.result.place (i.counts told) c.count_hand-hand.ensures.counted c.keep.ensures.place c.in-Some.sample c.in-Some.is (sym c.goes_in.ensures ∙ c.if-goes_in.true) tree t samples o h in
    λ e. absurd (omega (arith, full, few, within))

pub returns-in-Some-clause-counted : goal.returns-in-Some-clause-counted
returns-in-Some-clause-counted g c told tree t samples o h =
    let i = c.loop-sample.invariant in
    count_ended c.args.portion.reduction (g.S.Store.file c.args.store.now) c.args.movie.now c.args.walk.now c.loop-sample.walk c.keep.new.self (goes_in c.args.portion.end c.args.description) _ c.loop-sample.count c.count_hand-hand.result.count c.count_hand-hand.result.next
    c.count_hand-hand.result.place (i.counts told) c.count_hand-hand.ensures.counted c.keep.ensures.place c.in-Some.sample c.in-Some.is (sym c.goes_in.ensures ∙ c.if-goes_in.false) tree t samples o h

pub returns-then-goes_in-clause-work : goal.returns-then-goes_in-clause-work
returns-then-goes_in-clause-work g c told tree t n o h =
    let i = c.loop-sample.invariant in
    let file = g.S.Store.file c.args.store.now in
    let m = c.args.movie.now in
    let kept = keeps_before file m c.args.walk.now c.loop-sample.walk _ _ (i.takes told) c.count_hand-hand.result.place c.keep.new.self _ c.count_hand-hand.ensures.keeps c.keep.ensures.place c.keep.ensures.work in
    most_before file m c.args.walk.now c.keep.new.self _ _ kept tree t n o h

pub returns-in-Some-clause-work : goal.returns-in-Some-clause-work
returns-in-Some-clause-work g c told tree t n o h =
    let i = c.loop-sample.invariant in
    let file = g.S.Store.file c.args.store.now in
    let m = c.args.movie.now in
    keeps_before file m c.args.walk.now c.loop-sample.walk _ _ (i.takes told) c.count_hand-hand.result.place c.keep.new.self _ c.count_hand-hand.ensures.keeps c.keep.ensures.place c.keep.ensures.work tree t n o h

pub returns-in_err-load-clause-unchanged : goal.returns-in_err-load-clause-unchanged
returns-in_err-load-clause-unchanged g c told tree t samples o h few =
    let p = err_from_is_err_and c.from_residual.result c.from_residual.ensures.1 in
    let i = c.loop-sample.invariant in
    let on = hand_counted c.args.portion.reduction (g.S.Store.file c.args.store.now) c.args.movie.now c.args.walk.now c.loop-sample.walk c.keep.new.self (goes_in c.args.portion.end c.args.description) _ c.loop-sample.count c.count_hand-hand.result.count
    c.count_hand-hand.result.next c.count_hand-hand.result.place (i.counts told) c.count_hand-hand.ensures.counted c.keep.ensures.place in
    let k = (on tree t samples o h).comes.comes in
    rw (p.1, p.2) ((rw (i.honesty, i.file) at c.in_err-load.ensures.loaded) told tree t k.0 k.1 o k.3.0)

pub returns-in_err-load-clause-work : goal.returns-in_err-load-clause-work
returns-in_err-load-clause-work g c told tree t n o h =
    let p = err_from_is_err_and c.from_residual.result c.from_residual.ensures.1 in
    let i = c.loop-sample.invariant in
    let file = g.S.Store.file c.args.store.now in
    let m = c.args.movie.now in
    let kept = keeps_before file m c.args.walk.now c.loop-sample.walk _ _ (i.takes told) c.count_hand-hand.result.place c.keep.new.self _ c.count_hand-hand.ensures.keeps c.keep.ensures.place c.keep.ensures.work in
    rw p.1 (fails_before file m c.args.walk.now c.keep.new.self _ _ kept _ ((rw (i.honesty, i.file) at c.in_err-load.ensures.work) told) tree t n o h)

pub returns-then-not-branch-clause-counted : goal.returns-then-not-branch-clause-counted
returns-then-not-branch-clause-counted g c told tree t samples o h =
    let i = c.loop-sample.invariant in
    let file = g.S.Store.file c.args.store.now in
    let m = c.args.movie.now in
    let test = goes_in c.args.portion.end c.args.description in
    let counted = c.count_hand-hand.ensures.counted in
    let on = hand_counted c.args.portion.reduction file m c.args.walk.now c.loop-sample.walk c.keep.new.self test _ c.loop-sample.count c.count_hand-hand.result.count c.count_hand-hand.result.next c.count_hand-hand.result.place (i.counts told) counted c.keep.ensures.place in
    let is_none : c.count_hand-hand.result.next ≡ None = search rules in
    let empty = count_empty c.args.portion.reduction file m c.args.walk.now c.loop-sample.walk c.keep.new.self test _ c.loop-sample.count c.count_hand-hand.result.count c.count_hand-hand.result.next c.count_hand-hand.result.place (i.counts told) counted c.keep.ensures.place is_none in
    let is_hand = subst (λ w. InHandOf m w counted.later) (sym c.keep.ensures.place) counted.is_later in
    let l = c.in_ok-load.ensures in
    none_counted c.args.portion.reduction file m c.args.walk.now c.keep.new.self c.load.new.self test _ counted.later c.in_ok-load.field-0 on is_hand empty ((rw (i.honesty, i.file) at l.loaded) told) c.if-not-branch.true ((rw (i.honesty, i.file) at l.answer.1) told) tree t samples o h

pub returns-then-not-branch-clause-work : goal.returns-then-not-branch-clause-work
returns-then-not-branch-clause-work g c told tree t n o h =
    let i = c.loop-sample.invariant in
    let file = g.S.Store.file c.args.store.now in
    let m = c.args.movie.now in
    let kept = keeps_before file m c.args.walk.now c.loop-sample.walk _ _ (i.takes told) c.count_hand-hand.result.place c.keep.new.self _ c.count_hand-hand.ensures.keeps c.keep.ensures.place c.keep.ensures.work in
    loads_before file m c.args.walk.now c.keep.new.self _ _ kept c.load.new.self _ ((rw (i.honesty, i.file) at c.in_ok-load.ensures.work) told) tree t n o h

pub loop-sample-preserved : goal.loop-sample-preserved
loop-sample-preserved g c =
    let i = c.loop-sample.invariant in
    let l = c.in_ok-load.ensures in
    record {
      walk = l.walk.walk;
      room = search rules;
      honesty = l.store.honesty ∙ i.honesty;
      file = l.store.file ∙ i.file;
      reads = l.store.reads ∙ i.reads;
      looks = search rules;
      few = (let most = c.count_hand-hand.ensures.counted.few in let within = i.few in omega (arith, most, within));
      counts = λ told.
          let file = g.S.Store.file c.args.store.now in
          let m = c.args.movie.now in
          let test = goes_in c.args.portion.end c.args.description in
          let counted = c.count_hand-hand.ensures.counted in
          let on = hand_counted c.args.portion.reduction file m c.args.walk.now c.loop-sample.walk c.keep.new.self test _ c.loop-sample.count c.count_hand-hand.result.count c.count_hand-hand.result.next c.count_hand-hand.result.place (i.counts told) counted c.keep.ensures.place in
          let is_none : c.count_hand-hand.result.next ≡ None = search rules in
          let empty = count_empty c.args.portion.reduction file m c.args.walk.now c.loop-sample.walk c.keep.new.self test _ c.loop-sample.count c.count_hand-hand.result.count c.count_hand-hand.result.next c.count_hand-hand.result.place (i.counts told) counted c.keep.ensures.place is_none in
          let is_hand = subst (λ w. InHandOf m w counted.later) (sym c.keep.ensures.place) counted.is_later in
          next_counted c.args.portion.reduction file m c.args.walk.now c.keep.new.self c.load.new.self test _ counted.later c.in_ok-load.field-0 on is_hand empty ((rw (i.honesty, i.file) at l.loaded) told) (search rules);
      takes = λ told.
          let file = g.S.Store.file c.args.store.now in
          let m = c.args.movie.now in
          let kept = keeps_before file m c.args.walk.now c.loop-sample.walk _ _ (i.takes told) c.count_hand-hand.result.place c.keep.new.self _ c.count_hand-hand.ensures.keeps c.keep.ensures.place c.keep.ensures.work in
          loads_before file m c.args.walk.now c.keep.new.self _ _ kept c.load.new.self _ ((rw (i.honesty, i.file) at l.work) told);
      grows = (let kept = c.keep.ensures.work in let loaded = l.grows in let so = i.grows in omega (arith, kept, loaded, so));
    }
