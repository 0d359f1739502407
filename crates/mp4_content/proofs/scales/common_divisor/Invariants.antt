use Rattle.std.proofs.Common.{ℕ}
use Rattle.std.specs.Int.{IsGcd}
use Rattle.mp4_content.proofs.scales.common_divisor.Given as goal

-- what is the greatest common divisor of both numbers is that of the first two
abbrev pub invariant-loop-y : goal.invariant-loop-y
invariant-loop-y l = (g : ℕ) → IsGcd l.x l.y g → IsGcd l.fn.a l.fn.b g

abbrev pub decreases-loop-y : goal.decreases-loop-y
decreases-loop-y l = l.y
