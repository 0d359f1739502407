use Rattle.std.proofs.Common.{refl}
use Rattle.mp4_frag.proofs.DurationsKept.{run_left_out}
use Rattle.mp4_frag.proofs.counts.leave_run.Goals as goal

pub returns-clause-coming : goal.returns-clause-coming
returns-clause-coming c = run_left_out c.args.payload.now c.args.place.now _ refl refl refl
