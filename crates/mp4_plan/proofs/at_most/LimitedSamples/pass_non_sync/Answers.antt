use Rattle.std.proofs.Common.{◌≤◌, arith}
use Rattle.mp4_plan.proofs.NonSyncCounted.{passes_limited, takes_some}
use Rattle.mp4_plan.proofs.at_most.LimitedSamples.pass_non_sync.Goals as goal

pub returns-clause-passed : goal.returns-clause-passed
returns-clause-passed g c =
    let few : c.pass_non_sync-count.result ≤ c.args.self.now.left = omega (arith, c.pass_non_sync-count.ensures.few, c.min.ensures) in
    passes_limited c.args.self.now.left c.args.description c.pass_non_sync-count.result _ _ few c.pass_non_sync-count.ensures.passed

pub returns-clause-later : goal.returns-clause-later
returns-clause-later g c =
    let few : c.pass_non_sync-count.result ≤ c.args.self.now.left = omega (arith, c.pass_non_sync-count.ensures.few, c.min.ensures) in
    (c.pass_non_sync-count.ensures.later, takes_some c.args.self.now.left c.args.description c.pass_non_sync-count.result _ _ few c.pass_non_sync-count.ensures.passed)
