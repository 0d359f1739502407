use Rattle.std.proofs.Common.{sym}
use Rattle.mp4_plan.proofs.HandSteps.{takes_one}
use Rattle.mp4_plan.proofs.NonSyncCounted.{next_limited}
use Rattle.mp4_plan.proofs.at_most.LimitedSamples.pass.Goals as goal

pub pass-requires : goal.pass-requires
pass-requires g c = next_limited c.args.self.now.left c.args.sample.now _ c.requires

pub returns-then-self-gt0-clause-later : goal.returns-then-self-gt0-clause-later
returns-then-self-gt0-clause-later g c =
    let h = next_limited c.args.self.now.left c.args.sample.now (g.C.Samples.rest c.args.self.now.inner) c.requires in
    (c.pass.ensures.later, takes_one c.args.self.now.left _ _ h.next c.if-self-gt0.true (sym h.first) c.pass.ensures.rest)
