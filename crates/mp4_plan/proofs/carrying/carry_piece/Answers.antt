use Rattle.std.proofs.Common.{◌≡◌, ◌-◌, rules, refl, sym, subst, ◌∙◌, arith}
use Rattle.std.proofs.lemmas.Result.{err_from_is_err_and}
use Rattle.mp4_present.specs.words.Carried.{waiting}
use Rattle.mp4_present.proofs.Carrying.{GoOnBy-none, GoOnBy-then}
use Rattle.mp4_present.proofs.WalkPlaces.{kept_on}
use Rattle.mp4_plan.proofs.HandsCarried.{carried_none}
use Rattle.mp4_plan.proofs.PieceCarried.{hand_carried, carried_all, next_carried, hand_fails, hand_there, front_carried, no_bytes_left, none_left_to_carry}
use Rattle.mp4_content.proofs.WalksOn.{hand_kept}
use Rattle.mp4_present.specs.words.SamplesComing.{Comes}
use Rattle.mp4_present.specs.words.Movies.{InHandOf}
use Rattle.mp4_present.proofs.WayThrough.{takes_none}
use Rattle.mp4_content.proofs.CourseSteps.{hand_keeps, keeps_before, loads_before, most_before, fails_before, as_many}
use Rattle.mp4_content.proofs.WalksGone.{went_none, went_kept, went_loaded}
use Rattle.mp4_plan.proofs.carrying.carry_piece.Goals as goal
use Rattle.mp4_plan.proofs.carrying.carry_piece.Goals.{else-left-eq0-via-then-left-eq0+else-left-eq0-2, else-left-eq0-via-else-left-eq0, then-left-eq0-3-via-then-left-eq0-3, then-left-eq0-3-via-else-left-eq0-3+in_ok-load+then-not-branch}

pub load-requires : goal.load-requires
load-requires g c =
    rw c.keep.ensures.place (kept_on c.args.movie.now c.loop-left.walk c.in_hand-hand.result _ c.place-place.result c.loop-left.invariant.walk c.in_hand-hand.ensures.hand c.in_ok-left.ensures.later c.place-place.ensures)

pub loop-left-init : goal.loop-left-init
loop-left-init g c = record {
  walk = c.requires;
  room = refl;
  honesty = refl;
  file = refl;
  reads = refl;
  looks = refl;
  puts = refl;
  buffer = refl;
  few = omega arith;
  many = GoOnBy-none _ (g.met.K.Sink.takes_nothing _) _ _ (omega arith);
  carried = λ told tree t samples o h. (samples, (h, carried_none _ _ (g.met.K.Sink.takes_nothing _) _ _ _));
  went = went_none c.args.movie.now c.args.walk.now c.args.steps.now.passed;
  takes = λ told tree t n o h. takes_none (g.S.Store.file c.args.store.now) tree t n c.args.steps.now.passed c.args.walk.now h;
}

pub returns-then-left-eq0-2-clause-put : goal.returns-then-left-eq0-2-clause-put
returns-then-left-eq0-2-clause-put g c told tree t samples o h =
    let i = c.loop-left.invariant in
    let e = c.in_ok-left.ensures in
    let file = g.S.Store.file c.args.store.now in
    let m = c.args.movie.now in
    let u = hand_carried file m c.args.walk.now c.loop-left.walk c.keep.new.self g.met.K.Sink.takes_on _ _ _ _ _ _ c.args.load c.loop-left.left c.in_ok-left.left c.in_hand-hand.result _ c.place-place.result (i.carried told) c.in_hand-hand.ensures.hand e.later
    c.place-place.ensures ((rw (i.honesty, i.file) at e.put) told) c.keep.ensures.place tree t samples o h in
    (carried_all file _ _ _ samples u.0 c.args.load c.in_ok-left.left (search rules) u.1.1).0

pub returns-then-left-eq0-2-clause-comes : goal.returns-then-left-eq0-2-clause-comes
returns-then-left-eq0-2-clause-comes g c told tree t samples o h =
    let i = c.loop-left.invariant in
    let e = c.in_ok-left.ensures in
    let file = g.S.Store.file c.args.store.now in
    let m = c.args.movie.now in
    let u = hand_carried file m c.args.walk.now c.loop-left.walk c.keep.new.self g.met.K.Sink.takes_on _ _ _ _ _ _ c.args.load c.loop-left.left c.in_ok-left.left c.in_hand-hand.result _ c.place-place.result (i.carried told) c.in_hand-hand.ensures.hand e.later
    c.place-place.ensures ((rw (i.honesty, i.file) at e.put) told) c.keep.ensures.place tree t samples o h in
    subst (λ ss. Comes file tree t m c.keep.new.self ss) (carried_all file _ _ _ samples u.0 c.args.load c.in_ok-left.left (search rules) u.1.1).1 u.1.0

pub returns-then-left-eq0-2-clause-piece : goal.returns-then-left-eq0-2-clause-piece
returns-then-left-eq0-2-clause-piece g c =
    let i = c.loop-left.invariant in
    let e = c.in_ok-left.ensures in
    let few = i.few in
    let fewer = e.many.0 in
    let none : c.in_ok-left.left.bytes ≡ 0 = search rules in
    record {
      walk = record {
        walk = rw c.keep.ensures.place (kept_on c.args.movie.now c.loop-left.walk c.in_hand-hand.result _ c.place-place.result i.walk c.in_hand-hand.ensures.hand e.later c.place-place.ensures);
        room = search rules;
      };
      along = record {
        many = GoOnBy-then g.met.K.Sink.takes_on _ _ _ _ (waiting c.loop-left.carrier) _ (c.args.load.bytes - c.loop-left.left.bytes) (c.loop-left.left.bytes - c.in_ok-left.left.bytes) _ i.many e.many.1 (omega (arith, few, fewer, none));
        buffer = e.room ∙ i.buffer;
      };
      devices = record { honesty = e.devices.honesty ∙ i.honesty; file = e.devices.file ∙ i.file; reads = e.devices.reads ∙ i.reads; puts = e.devices.puts ∙ i.puts };
      refusal = search rules;
    }

pub loop-left-preserved : goal.loop-left-preserved
loop-left-preserved g c =
    let i = c.loop-left.invariant in
    let e = c.in_ok-left.ensures in
    let l = c.in_ok-load.ensures in
    record {
      walk = l.walk.walk;
      room = search rules;
      honesty = l.store.honesty ∙ e.devices.honesty ∙ i.honesty;
      file = l.store.file ∙ e.devices.file ∙ i.file;
      reads = search rules;
      looks = search rules;
      puts = e.devices.puts ∙ i.puts;
      buffer = e.room ∙ i.buffer;
      few = (let few = i.few in let fewer = e.many.0 in omega (arith, few, fewer));
      many =
          let few = i.few in
          let fewer = e.many.0 in
          GoOnBy-then g.met.K.Sink.takes_on _ _ _ _ (waiting c.loop-left.carrier) _ (c.args.load.bytes - c.loop-left.left.bytes) (c.loop-left.left.bytes - c.in_ok-left.left.bytes) _ i.many e.many.1 (omega (arith, few, fewer));
      carried = λ told.
          let file = g.S.Store.file c.args.store.now in
          let m = c.args.movie.now in
          let place = c.place-place.result in
          let later = c.carry_hand.new.hand in
          let on = hand_carried file m c.args.walk.now c.loop-left.walk c.keep.new.self g.met.K.Sink.takes_on _ _ _ _ _ _ c.args.load c.loop-left.left c.in_ok-left.left c.in_hand-hand.result later place (i.carried told) c.in_hand-hand.ensures.hand e.later c.place-place.ensures
          ((rw (i.honesty, i.file) at e.put) told) c.keep.ensures.place in
          let is_hand = subst (λ w. InHandOf m w later) (sym c.keep.ensures.place) (hand_kept m c.loop-left.walk c.in_hand-hand.result later place c.in_hand-hand.ensures.hand e.later c.place-place.ensures) in
          next_carried file m c.args.walk.now c.keep.new.self c.load.new.self _ _ _ c.args.load c.in_ok-left.left later c.in_ok-load.field-0 on is_hand (e.ends (search rules)) ((rw (e.devices.honesty, i.honesty, e.devices.file, i.file) at l.loaded) told) (search rules);
      went =
          let m = c.args.movie.now in
          let more = l.answer.0.next (search rules) in
          went_loaded m c.args.walk.now c.keep.new.self _ _ (went_kept m c.args.walk.now c.loop-left.walk _ _ i.went c.place-place.result c.keep.new.self _ c.keep.ensures.place c.keep.ensures.work) c.load.new.self _ l.walk.mark l.grows more (l.answer.0.holds (search rules));
      takes = λ told.
          let file = g.S.Store.file c.args.store.now in
          let m = c.args.movie.now in
          let on = hand_keeps m c.loop-left.walk c.in_hand-hand.result c.carry_hand.new.hand c.place-place.result c.in_hand-hand.ensures.movie i.walk c.in_hand-hand.ensures.hand e.later c.place-place.ensures in
          let kept = keeps_before file m c.args.walk.now c.loop-left.walk _ _ (i.takes told) c.place-place.result c.keep.new.self _ on c.keep.ensures.place c.keep.ensures.work in
          loads_before file m c.args.walk.now c.keep.new.self _ _ kept c.load.new.self _ ((rw (e.devices.honesty, i.honesty, e.devices.file, i.file) at l.work) told);
    }

pub returns-in_err-left-clause-put : goal.returns-in_err-left-clause-put
returns-in_err-left-clause-put g c told tree t samples o h =
    let p = err_from_is_err_and c.from_residual.result c.from_residual.ensures.1 in
    let i = c.loop-left.invariant in
    rw p.1 (hand_fails (g.S.Store.file c.args.store.now) c.args.movie.now c.args.walk.now c.loop-left.walk g.met.K.Sink.takes_on _ _ _ _ _ c.args.load c.loop-left.left c.in_hand-hand.result (i.carried told) c.in_hand-hand.ensures.hand
    ((rw (i.honesty, i.file) at c.in_err-left.ensures.put) told) tree t samples o h)

pub returns-in_err-left-clause-unchanged : goal.returns-in_err-left-clause-unchanged
returns-in_err-left-clause-unchanged g c told tree t samples o h there =
    let p = err_from_is_err_and c.from_residual.result c.from_residual.ensures.1 in
    let i = c.loop-left.invariant in
    let x = hand_there (g.S.Store.file c.args.store.now) c.args.movie.now c.args.walk.now c.loop-left.walk _ _ _ c.args.load c.loop-left.left c.in_hand-hand.result (i.carried told) c.in_hand-hand.ensures.hand tree t samples o h there in
    rw (p.1, p.2) ((rw (i.honesty, i.file) at c.in_err-left.ensures.unchanged) told x.0 x.1)

pub returns-in_err-load-clause-put : goal.returns-in_err-load-clause-put
returns-in_err-load-clause-put g c told tree t samples o h =
    let p = err_from_is_err_and c.from_residual-in_err-load.result c.from_residual-in_err-load.ensures.1 in
    let i = c.loop-left.invariant in
    let e = c.in_ok-left.ensures in
    let file = g.S.Store.file c.args.store.now in
    let m = c.args.movie.now in
    let on = hand_carried file m c.args.walk.now c.loop-left.walk c.keep.new.self g.met.K.Sink.takes_on _ _ _ _ _ _ c.args.load c.loop-left.left c.in_ok-left.left c.in_hand-hand.result c.carry_hand.new.hand c.place-place.result (i.carried told)
    c.in_hand-hand.ensures.hand e.later c.place-place.ensures
    ((rw (i.honesty, i.file) at e.put) told) c.keep.ensures.place in
    rw p.1 (front_carried file m c.args.walk.now c.keep.new.self _ _ _ c.args.load c.in_ok-left.left on tree t samples o h)

pub returns-in_err-load-clause-unchanged : goal.returns-in_err-load-clause-unchanged
returns-in_err-load-clause-unchanged g c told tree t samples o h there =
    let p = err_from_is_err_and c.from_residual-in_err-load.result c.from_residual-in_err-load.ensures.1 in
    let i = c.loop-left.invariant in
    let e = c.in_ok-left.ensures in
    let file = g.S.Store.file c.args.store.now in
    let m = c.args.movie.now in
    let on = hand_carried file m c.args.walk.now c.loop-left.walk c.keep.new.self g.met.K.Sink.takes_on _ _ _ _ _ _ c.args.load c.loop-left.left c.in_ok-left.left c.in_hand-hand.result c.carry_hand.new.hand c.place-place.result (i.carried told)
    c.in_hand-hand.ensures.hand e.later c.place-place.ensures
    ((rw (i.honesty, i.file) at e.put) told) c.keep.ensures.place in
    let k = (on tree t samples o h).1.0 in
    rw (p.1, p.2) ((rw (e.devices.honesty, i.honesty, e.devices.file, i.file) at c.in_err-load.ensures.loaded) told tree t k.0 k.1 o k.3.0)

pub returns-then-left-eq0-3-clause-put : goal.returns-then-left-eq0-3-clause-put
returns-then-left-eq0-3-clause-put g c told tree t samples o h =
    let i = c.loop-left.invariant in
    let e = c.in_ok-left.ensures in
    let file = g.S.Store.file c.args.store.now in
    let m = c.args.movie.now in
    let on = hand_carried file m c.args.walk.now c.loop-left.walk c.keep.new.self g.met.K.Sink.takes_on _ _ _ _ _ _ c.args.load c.loop-left.left c.in_ok-left.left c.in_hand-hand.result c.carry_hand.new.hand c.place-place.result (i.carried told)
    c.in_hand-hand.ensures.hand e.later c.place-place.ensures
    ((rw (i.honesty, i.file) at e.put) told) c.keep.ensures.place in
    front_carried file m c.args.walk.now c.keep.new.self _ _ _ c.args.load c.in_ok-left.left on tree t samples o h

pub returns-then-left-eq0-3-clause-unchanged : goal.returns-then-left-eq0-3-clause-unchanged
returns-then-left-eq0-3-clause-unchanged g c told tree t samples o h there z =
    let i = c.loop-left.invariant in
    let e = c.in_ok-left.ensures in
    let file = g.S.Store.file c.args.store.now in
    let m = c.args.movie.now in
    let on = hand_carried file m c.args.walk.now c.loop-left.walk c.keep.new.self g.met.K.Sink.takes_on _ _ _ _ _ _ c.args.load c.loop-left.left c.in_ok-left.left c.in_hand-hand.result c.carry_hand.new.hand c.place-place.result (i.carried told)
    c.in_hand-hand.ensures.hand e.later c.place-place.ensures
    ((rw (i.honesty, i.file) at e.put) told) c.keep.ensures.place in
    let left = c.in_ok-left.left in
    let later = c.carry_hand.new.hand in
    elim c.then-left-eq0-3.branch [
      | then-left-eq0-3-via-then-left-eq0-3 w ↦
          (let none = no_bytes_left file m c.args.walk.now c.keep.new.self _ _ _ c.args.load left on w.if-left-eq0-3.true tree t samples o h there in
          elim c.else-left-eq0.branch [
            | else-left-eq0-via-then-left-eq0+else-left-eq0-2 v ↦ v.if-left-eq0-2.false none
            | else-left-eq0-via-else-left-eq0 v ↦ v.if-left-eq0.false w.if-left-eq0-3.true
          ])
      | then-left-eq0-3-via-else-left-eq0-3+in_ok-load+then-not-branch w ↦
          (let is_hand = subst (λ w'. InHandOf m w' later) (sym c.keep.ensures.place) (hand_kept m c.loop-left.walk c.in_hand-hand.result later c.place-place.result c.in_hand-hand.ensures.hand e.later c.place-place.ensures) in
          let not_none = w.if-left-eq0-3.false in
          let none = none_left_to_carry file m c.args.walk.now c.keep.new.self w.load.new.self _ _ _ c.args.load left later w.in_ok-load.field-0 on is_hand (e.ends (omega (arith, not_none))) ((rw (e.devices.honesty, i.honesty, e.devices.file, i.file) at w.in_ok-load.ensures.loaded) told)
          w.if-not-branch.true tree t samples o h there in
          not_none none)
    ]

pub returns-then-left-eq0-2-clause-work : goal.returns-then-left-eq0-2-clause-work
returns-then-left-eq0-2-clause-work g c told tree t n o h =
    let i = c.loop-left.invariant in
    let e = c.in_ok-left.ensures in
    let file = g.S.Store.file c.args.store.now in
    let m = c.args.movie.now in
    let on = hand_keeps m c.loop-left.walk c.in_hand-hand.result c.carry_hand.new.hand c.place-place.result c.in_hand-hand.ensures.movie i.walk c.in_hand-hand.ensures.hand e.later c.place-place.ensures in
    let kept = keeps_before file m c.args.walk.now c.loop-left.walk _ _ (i.takes told) c.place-place.result c.keep.new.self _ on c.keep.ensures.place c.keep.ensures.work in
    kept tree t n o h

pub returns-in_err-left-clause-work : goal.returns-in_err-left-clause-work
returns-in_err-left-clause-work g c told tree t n o h =
    let p = err_from_is_err_and c.from_residual.result c.from_residual.ensures.1 in
    rw p.1 (most_before (g.S.Store.file c.args.store.now) c.args.movie.now c.args.walk.now c.loop-left.walk _ _ (c.loop-left.invariant.takes told) tree t n o h)

pub returns-in_err-load-clause-work : goal.returns-in_err-load-clause-work
returns-in_err-load-clause-work g c told tree t n o h =
    let p = err_from_is_err_and c.from_residual-in_err-load.result c.from_residual-in_err-load.ensures.1 in
    let i = c.loop-left.invariant in
    let e = c.in_ok-left.ensures in
    let file = g.S.Store.file c.args.store.now in
    let m = c.args.movie.now in
    let on = hand_keeps m c.loop-left.walk c.in_hand-hand.result c.carry_hand.new.hand c.place-place.result c.in_hand-hand.ensures.movie i.walk c.in_hand-hand.ensures.hand e.later c.place-place.ensures in
    let kept = keeps_before file m c.args.walk.now c.loop-left.walk _ _ (i.takes told) c.place-place.result c.keep.new.self _ on c.keep.ensures.place c.keep.ensures.work in
    rw p.1 (fails_before file m c.args.walk.now c.keep.new.self _ _ kept _ ((rw (e.devices.honesty, i.honesty, e.devices.file, i.file) at c.in_err-load.ensures.work) told) tree t n o h)

pub returns-then-left-eq0-3-clause-work : goal.returns-then-left-eq0-3-clause-work
returns-then-left-eq0-3-clause-work g c told tree t n o h =
    let i = c.loop-left.invariant in
    let e = c.in_ok-left.ensures in
    let file = g.S.Store.file c.args.store.now in
    let m = c.args.movie.now in
    let on = hand_keeps m c.loop-left.walk c.in_hand-hand.result c.carry_hand.new.hand c.place-place.result c.in_hand-hand.ensures.movie i.walk c.in_hand-hand.ensures.hand e.later c.place-place.ensures in
    let kept = keeps_before file m c.args.walk.now c.loop-left.walk _ _ (i.takes told) c.place-place.result c.keep.new.self _ on c.keep.ensures.place c.keep.ensures.work in
    elim c.then-left-eq0-3.branch [
      | then-left-eq0-3-via-then-left-eq0-3 w ↦ as_many _ _ _ (λ i. (w.steps-is i).passed) (most_before file m c.args.walk.now c.keep.new.self _ _ kept tree t n o h)
      | then-left-eq0-3-via-else-left-eq0-3+in_ok-load+then-not-branch w ↦
          (let all = loads_before file m c.args.walk.now c.keep.new.self _ _ kept w.load.new.self _ ((rw (e.devices.honesty, i.honesty, e.devices.file, i.file) at w.in_ok-load.ensures.work) told) in
          as_many _ _ _ (λ i. (w.steps-is i).passed) (most_before file m c.args.walk.now w.load.new.self _ _ all tree t n o h))
    ]

pub returns-then-left-eq0-2-clause-went : goal.returns-then-left-eq0-2-clause-went
returns-then-left-eq0-2-clause-went g c = went_kept c.args.movie.now c.args.walk.now c.loop-left.walk _ _ c.loop-left.invariant.went c.place-place.result c.keep.new.self _ c.keep.ensures.place c.keep.ensures.work
