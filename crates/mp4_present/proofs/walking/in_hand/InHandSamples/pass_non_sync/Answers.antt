use Rattle.mp4_tables.proofs.NonSyncPassed.{others_left}
use Rattle.mp4_present.proofs.walking.in_hand.InHandSamples.pass_non_sync.Goals as goal

pub returns-in-Fragment-clause-later : goal.returns-in-Fragment-clause-later
returns-in-Fragment-clause-later c =
    let n = c.pass_non_sync-in-Fragment in
    rw c.in-Fragment.is (n.ensures.later.0, n.ensures.later.1, n.ensures.later.2, (n.result, others_left c.args.description n.result _ _ n.ensures.passed))
