use Rattle.std.proofs.Common.{◌≡◌, length}
use Rattle.mp4_content.specs.format.BitRates.{other_left}
use Rattle.mp4_content.proofs.bit_rates.other_left.Given as goal

-- the same is left of what is left so far
abbrev pub invariant-loop-front : goal.invariant-loop-front
invariant-loop-front l = other_left l.front ≡ other_left l.payload

-- each `btrt` has some bytes
abbrev pub decreases-loop-front : goal.decreases-loop-front
decreases-loop-front l = length l.front
