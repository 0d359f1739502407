use Rattle.std.proofs.Common.{◌∙◌, ap, sym, arith}
use Rattle.mp4_plan.specs.words.Gathering.{answer, more_of, piece_fed, samples_after}
use Rattle.mp4_plan.proofs.PlannerSteps.{fed_more, after_more, fed_none, after_none, closed, none_is, more_of-nil, count_with, length_rest}
use Rattle.mp4_plan.proofs.NonSyncCounted.{next_seen}
use Rattle.mp4_plan.proofs.planner.Planner.feed.Goals as goal
use Rattle.mp4_present.proofs.JoinedSamples.{first_of}

pub returns-then-not-takes-clause-piece : goal.returns-then-not-takes-clause-piece
returns-then-not-takes-clause-piece g c = sym (fed_none _ _ (closed _ _ _ c.in-Some.ensures (sym c.if-not-takes.ensures))) ∙ c.loop-sample.invariant.piece

pub returns-then-not-takes-clause-rest : goal.returns-then-not-takes-clause-rest
returns-then-not-takes-clause-rest g c = sym (after_none _ _ (closed _ _ _ c.in-Some.ensures (sym c.if-not-takes.ensures))) ∙ c.loop-sample.invariant.left

pub returns-then-not-takes-clause-fed : goal.returns-then-not-takes-clause-fed
returns-then-not-takes-clause-fed g c =
    let rest = g.S.Samples.rest c.loop-sample.samples in
    ap answer (sym (first_of rest _ c.in-Some.ensures) ∙ sym (after_none _ _ (closed _ _ _ c.in-Some.ensures (sym c.if-not-takes.ensures))) ∙ c.loop-sample.invariant.left)

pub loop-sample-preserved : goal.loop-sample-preserved
loop-sample-preserved g c =
    let rest = g.S.Samples.rest in
    let i = c.loop-sample.invariant in
    let goes = sym c.if-not-takes.ensures in
    let long = length_rest (rest c.loop-sample.samples) (rest c.pass.new.self) _ c.in-Some.ensures c.pass.ensures.rest in
    let room = i.room in
    record {
      room = omega (arith, count_with _ _ _ c.take.ensures);
      piece = ap (λ xs. piece_fed c.take.new.self xs) c.pass.ensures.rest ∙ fed_more _ _ _ _ c.in-Some.ensures c.take.ensures goes ∙ i.piece;
      left = ap (λ xs. samples_after c.take.new.self xs) c.pass.ensures.rest ∙ after_more _ _ _ _ c.in-Some.ensures c.take.ensures goes ∙ i.left;
      count = (let count = i.count in omega (arith, count_with _ _ _ c.take.ensures, long, count));
      later = g.met.S.Samples.follows_on _ _ _ i.later c.pass.ensures.later;
    }

pub returns-clause-piece : goal.returns-clause-piece
returns-clause-piece g c =
    let ends = none_is (g.S.Samples.rest c.loop-sample.samples) c.in_default.ensures in
    sym (fed_none _ _ (ap (more_of c.loop-sample.self) ends ∙ more_of-nil c.loop-sample.self)) ∙ c.loop-sample.invariant.piece

pub returns-clause-rest : goal.returns-clause-rest
returns-clause-rest g c =
    let ends = none_is (g.S.Samples.rest c.loop-sample.samples) c.in_default.ensures in
    sym (after_none _ _ (ap (more_of c.loop-sample.self) ends ∙ more_of-nil c.loop-sample.self)) ∙ c.loop-sample.invariant.left

pub returns-clause-fed : goal.returns-clause-fed
returns-clause-fed g c =
    let ends = none_is (g.S.Samples.rest c.loop-sample.samples) c.in_default.ensures in
    ap answer (sym ends ∙ sym (after_none _ _ (ap (more_of c.loop-sample.self) ends ∙ more_of-nil c.loop-sample.self)) ∙ c.loop-sample.invariant.left)

pub pass-requires : goal.pass-requires
pass-requires g c = next_seen _ _ c.in-Some.ensures
