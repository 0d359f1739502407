use Rattle.std.proofs.Common.{◌∙◌, ◌-◌, refl, rules, length, arith}
use Rattle.std.proofs.lemmas.Result.{err_from_is_err_and}
use Rattle.mp4_present.specs.words.Carried.{waiting}
use Rattle.mp4_present.specs.words.InHand.{follows_itself, follows_on}
use Rattle.mp4_present.proofs.Carrying.{GoOnBy-none, GoOnBy-then}
use Rattle.mp4_plan.proofs.HandsCarried.{carried_none, carried_more, carried_as, carried_front, stretch_fails, stretch_fits, next_below}
use Rattle.mp4_present.proofs.WalkCopied.{stretch_there}
use Rattle.mp4_plan.proofs.carrying.carry_hand.Goals as goal

pub loop-stretch-init : goal.loop-stretch-init
loop-stretch-init g c = record {
  later = follows_itself c.args.hand.now;
  honesty = refl;
  file = refl;
  reads = refl;
  puts = refl;
  room = refl;
  few = omega arith;
  many = GoOnBy-none _ (g.met.K.Sink.takes_nothing _) _ _ (omega arith);
  bytes = λ _. carried_none _ _ (g.met.K.Sink.takes_nothing _) _ _ _;
}

pub loop-stretch-preserved : goal.loop-stretch-preserved
loop-stretch-preserved g c =
    let i = c.loop-stretch.invariant in
    let e = c.in_ok-carry_stretch.ensures in
    let s = c.next_stretch.ensures in
    record {
      later = follows_on _ _ _ i.later s.later;
      honesty = e.store.honesty ∙ i.honesty;
      file = e.store.file ∙ i.file;
      reads = e.store.reads ∙ i.reads;
      puts = e.store.puts ∙ i.puts;
      room = e.along.buffer ∙ i.room;
      few = (let few = i.few in omega (arith, few));
      many =
          let few = i.few in
          let fits = c.if-stretch-left.false in
          GoOnBy-then g.met.K.Sink.takes_on _ _ _ _ (waiting c.loop-stretch.carrier) _ (c.args.load.bytes - c.loop-stretch.left.bytes) c.in-Some.stretch.len _ i.many e.along.many (omega (arith, few, fits));
      bytes = λ honest.
          carried_more _ g.met.K.Sink.takes_on _ _ _ _ _ _ _ _ _ _ _ _ c.in-Some.stretch.samples c.in-Some.stretch.at c.in-Some.stretch.len (i.bytes honest) c.in-Some.ensures.stretch c.in-Some.ensures.within c.in-Some.ensures.samples.2 c.in-Some.ensures.samples.1
          (search rules) refl refl c.in-Some.ensures.samples.3 ((rw (i.honesty, i.file) at e.bytes) honest);
    }

pub returns-clause-put : goal.returns-clause-put
returns-clause-put g c = λ honest. carried_as _ _ _ _ _ _ _ _ _ (c.loop-stretch.invariant.bytes honest) (c.in_default.ensures.kept refl)

pub returns-clause-many : goal.returns-clause-many
returns-clause-many g c = (c.loop-stretch.invariant.few, c.loop-stretch.invariant.many)

pub returns-clause-ends : goal.returns-clause-ends
returns-clause-ends g c = λ some. c.in_default.ensures.kept refl ∙ c.in_default.ensures.none refl some

pub returns-in_err-carry_stretch-clause-put : goal.returns-in_err-carry_stretch-clause-put
returns-in_err-carry_stretch-clause-put g c honest =
    let p = err_from_is_err_and c.from_residual.result c.from_residual.ensures.1 in
    let i = c.loop-stretch.invariant in
    let x = c.in-Some.stretch in
    rw p.1 (stretch_fails _ g.met.K.Sink.takes_on _ _ _ _ _ _ _ _ (i.bytes honest) _ x.samples x.at x.len c.in-Some.ensures.stretch c.in-Some.ensures.samples.1 ((rw (i.honesty, i.file) at c.in_err-carry_stretch.ensures.prefix) honest))

pub returns-in_err-carry_stretch-clause-unchanged : goal.returns-in_err-carry_stretch-clause-unchanged
returns-in_err-carry_stretch-clause-unchanged g c honest below fits =
    let p = err_from_is_err_and c.from_residual.result c.from_residual.ensures.1 in
    let i = c.loop-stretch.invariant in
    let file = g.S.Store.file c.args.store.now in
    rw (p.1, p.2) (stretch_there file c.in-Some.stretch _ _ _ _ c.in_err-carry_stretch.field-0.0 (c.in-Some.ensures.within (length file) (next_below _ _ _ _ _ _ _ _ (i.bytes honest) (length file) below)) (rw i.file at c.in_err-carry_stretch.ensures.refusal))

pub returns-then-stretch-left-clause-put : goal.returns-then-stretch-left-clause-put
returns-then-stretch-left-clause-put g c honest = carried_front _ _ _ _ _ _ _ _ (c.loop-stretch.invariant.bytes honest)

pub returns-then-stretch-left-clause-unchanged : goal.returns-then-stretch-left-clause-unchanged
returns-then-stretch-left-clause-unchanged g c honest below fits e =
    let x = c.in-Some.stretch in
    let room = stretch_fits _ _ _ _ _ _ _ _ (c.loop-stretch.invariant.bytes honest) x.samples x.at x.len c.in-Some.ensures.stretch c.in-Some.ensures.within c.in-Some.ensures.samples.1 fits in
    let more = c.if-stretch-left.true in
    absurd (omega (arith, room, more))
