use Rattle.std.proofs.Common.{refl, sym, rules, arith}
use Rattle.mp4_frag.proofs.Comings.{none_left, other_leaf, run_opened}
use Rattle.mp4_frag.proofs.WalkWork.{work_ended, work_leaf, work_run}
use Rattle.mp4_frag.proofs.opened_runs.pass_box.Goals as goal

pub returns-in_default-clause-place : goal.returns-in_default-clause-place
returns-in_default-clause-place c =
    let p = c.requires.place in
    record { next = search rules; rows = p.rows; width = p.width; indexes = p.indexes; number = p.number; work = omega (arith, p.work, work_ended c.args.payload.now c.args.place.now.next) }

pub returns-in_default-clause-coming : goal.returns-in_default-clause-coming
returns-in_default-clause-coming c = none_left c.args.payload.now c.args.place.now _ (c.in_default.ensures.none refl) c.requires.none refl

pub open_run-requires-clause-work : goal.open_run-requires-clause-work
open_run-requires-clause-work c =
    work_run c.args.payload.now c.args.place.now.passed c.args.place.now.run.left c.args.place.now.next c.in-Some.child.inside c.in-Some.child.end c.in-Some.child.kind.0 c.in-Some.ensures.some (sym c.if-eq.ensures) c.requires.place.work

pub returns-then-eq-clause-coming : goal.returns-then-eq-clause-coming
returns-then-eq-clause-coming c =
    let child = c.in-Some.child in
    run_opened c.args.payload.now c.args.place.now c.open_run.new.place child.inside child.end child.kind.0 c.in-Some.ensures.some (sym c.if-eq.ensures) c.requires.none c.open_run.ensures.next c.open_run.ensures.coming

pub returns-else-eq-clause-place : goal.returns-else-eq-clause-place
returns-else-eq-clause-place c =
    let p = c.requires.place in
    let child = c.in-Some.child in
    record {
      next = c.in-Some.ensures.order.2;
      rows = p.rows;
      width = p.width;
      indexes = p.indexes;
      number = p.number;
      work = omega (arith, p.work, work_leaf c.args.payload.now c.args.place.now.next child.inside child.end child.kind.0 c.in-Some.ensures.some);
    }

pub returns-else-eq-clause-coming : goal.returns-else-eq-clause-coming
returns-else-eq-clause-coming c =
    let child = c.in-Some.child in
    other_leaf c.args.payload.now c.args.place.now _ child.inside child.end child.kind.0 c.in-Some.ensures.some (sym c.if-eq.ensures) c.requires.none refl
