use Rattle.std.proofs.Common.{length}
use Rattle.mp4_present.proofs.faults.places.first_outside.Given as goal

abbrev pub decreases-loop-sample : goal.decreases-loop-sample
decreases-loop-sample g l = length (g.C.Samples.rest l.samples)
