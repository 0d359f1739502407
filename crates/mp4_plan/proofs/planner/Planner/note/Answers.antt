use Rattle.std.proofs.Common.{List, sym, subst, arith, rules}
use Rattle.mp4_tables.specs.declared.sample.SampleAt.{SampleAt}
use Rattle.mp4_plan.specs.words.Stretches.{JoinsOn}
use Rattle.mp4_plan.proofs.HandSteps.{notes_none, notes_one, notes_empty, notes_ended, notes_full, taken_more, taken_counted}
use Rattle.mp4_plan.proofs.Stretched.{joins_none, joins_then}
use Rattle.mp4_plan.proofs.PlannerSteps.{count_with}
use Rattle.mp4_plan.proofs.NonSyncCounted.{next_seen}
use Rattle.mp4_plan.proofs.planner.Planner.note.Goals as goal

pub loop-noted-init : goal.loop-noted-init
loop-noted-init g c = record {
  notes = notes_none _ _ _;
  count = omega arith;
  later = g.met.S.Samples.follows_itself _;
  joined = joins_none c.args.stretches.now;
}

pub returns-in_default-clause-noted : goal.returns-in_default-clause-noted
returns-in_default-clause-noted g c = notes_empty _ _ c.loop-noted.noted _ _ _ _ c.loop-noted.invariant.notes c.in_default.ensures

pub returns-then-not-takes-clause-noted : goal.returns-then-not-takes-clause-noted
returns-then-not-takes-clause-noted g c = notes_ended _ _ c.loop-noted.noted _ _ _ _ c.in-Some.sample c.loop-noted.invariant.notes (search rules) c.in-Some.ensures (sym c.if-not-takes.ensures)

pub loop-noted-preserved : goal.loop-noted-preserved
loop-noted-preserved g c =
    let i = c.loop-noted.invariant in
    let count = i.count in
    record {
      notes = notes_one _ c.loop-noted.self c.take.new.self c.loop-noted.noted _ _ _ _ _ c.in-Some.sample c.row_of.result i.notes (search rules) c.in-Some.ensures (sym c.if-not-takes.ensures) c.take.ensures c.pass.ensures.rest c.row_of.ensures;
      count = omega (arith, count, count_with _ _ _ c.take.ensures);
      later = g.met.S.Samples.follows_on _ _ _ i.later c.pass.ensures.later;
      joined = joins_then _ _ _ _ _ _ i.joined c.add.ensures.joined (taken_more _ _ _ _ _ _ _ _ i.notes c.in-Some.ensures);
    }

pub returns-clause-noted : goal.returns-clause-noted
returns-clause-noted g c = notes_full _ _ c.loop-noted.noted _ _ _ _ c.loop-noted.invariant.notes (search rules)

pub returns-in_default-clause-joined : goal.returns-in_default-clause-joined
returns-in_default-clause-joined g c =
    let i = c.loop-noted.invariant in
    subst (λ (l : List SampleAt). JoinsOn c.args.stretches.now c.loop-noted.stretches l) (taken_counted c.loop-noted.noted _ _ _ i.count) i.joined

pub returns-then-not-takes-clause-joined : goal.returns-then-not-takes-clause-joined
returns-then-not-takes-clause-joined g c =
    let i = c.loop-noted.invariant in
    subst (λ (l : List SampleAt). JoinsOn c.args.stretches.now c.loop-noted.stretches l) (taken_counted c.loop-noted.noted _ _ _ i.count) i.joined

pub returns-clause-joined : goal.returns-clause-joined
returns-clause-joined g c =
    let i = c.loop-noted.invariant in
    subst (λ (l : List SampleAt). JoinsOn c.args.stretches.now c.loop-noted.stretches l) (taken_counted c.loop-noted.noted _ _ _ i.count) i.joined

pub pass-requires : goal.pass-requires
pass-requires g c = next_seen _ _ c.in-Some.ensures
