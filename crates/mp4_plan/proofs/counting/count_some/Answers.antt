use Rattle.mp4_plan.proofs.NonSyncCounted.{counts_non_sync}
use Rattle.mp4_plan.proofs.counting.count_some.Goals as goal

pub returns-then-count-gt0-clause-counts : goal.returns-then-count-gt0-clause-counts
returns-then-count-gt0-clause-counts g c = rw c.in-Sync.is (counts_non_sync c.in-Sync.from c.in-Sync.scale c.args.description c.pass_non_sync-count.result _ _ c.pass_non_sync-count.ensures.passed)
