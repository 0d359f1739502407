use Rattle.mp4_present.specs.format.Presentation.{Presentation}
use Rattle.mp4_present.specs.words.Measured.{IsMeasure}
use Rattle.mp4_present.proofs.Lengths.{AreInTime}
use Rattle.mp4_present.proofs.opening.limit_checks.check_limits.Given as goal

-- the first tracks are in time
abbrev pub invariant-loop-k : goal.invariant-loop-k
invariant-loop-k l = (p : Presentation) → IsMeasure p l.head l.states → AreInTime p l.k l.longest
