use Rattle.std.proofs.Common.{rules, arith}
use Rattle.mp4_present.proofs.PassedOn.{one_passed, none_passed}
use Rattle.mp4_present.proofs.walking.going_back.pass_samples.Goals as goal

pub loop-passed-preserved : goal.loop-passed-preserved
loop-passed-preserved g c =
    let i = c.loop-passed.invariant in
    let given = (rw c.in-Some.is at c.next.ensures.given) in
    let r = one_passed c.loop-passed.passed _ _ _ _ i.left given c.next.ensures.rest in
    record {
      within = search rules;
      left = r.0;
      few = r.1;
      later = g.met.C.Samples.follows_on _ _ _ i.later c.next.ensures.later;
    }

pub returns-in-None-clause-enough : goal.returns-in-None-clause-enough
returns-in-None-clause-enough g c enough =
    let i = c.loop-passed.invariant in
    let given = (rw c.in-None.is at c.next.ensures.given) in
    let few = none_passed c.loop-passed.passed _ _ i.left given in
    absurd (omega (arith, few, enough))

pub returns-in-None-clause-later : goal.returns-in-None-clause-later
returns-in-None-clause-later g c = g.met.C.Samples.follows_on _ _ _ c.loop-passed.invariant.later c.next.ensures.later
