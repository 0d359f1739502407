use Rattle.std.proofs.Common.{refl}
use Rattle.mp4_tables.proofs.NonSyncPassed.{others_left}
use Rattle.mp4_content.proofs.ReducedPassed.{passes_reduced}
use Rattle.mp4_content.proofs.reduced.ReducedSamples.pass_non_sync.Goals as goal

pub returns-clause-passed : goal.returns-clause-passed
returns-clause-passed g c = passes_reduced c.args.self.now.reduction c.args.description c.pass_non_sync.result _ _ c.pass_non_sync.ensures.passed

pub returns-clause-later : goal.returns-clause-later
returns-clause-later g c = (c.pass_non_sync.ensures.later, refl, (c.pass_non_sync.result, others_left c.args.description c.pass_non_sync.result _ _ c.pass_non_sync.ensures.passed))
