use Rattle.std.proofs.Common.{rules}
use Rattle.mp4_plan.proofs.HandSteps.{takes_one}
use Rattle.mp4_plan.proofs.at_most.LimitedSamples.next.Goals as goal

pub returns-clause-later : goal.returns-clause-later
returns-clause-later g c = (c.next.ensures.later, takes_one c.args.self.now.left _ _ c.in_ok-sample.sample (search rules) c.in_ok-sample.ensures.given c.next.ensures.rest)
