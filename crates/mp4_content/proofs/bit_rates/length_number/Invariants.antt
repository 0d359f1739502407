use Rattle.std.proofs.Common.{◌≡◌}
use Rattle.mp4_content.specs.format.BitRates.{length_number}
use Rattle.mp4_content.proofs.bit_rates.length_number.Given as goal

-- the number in the bytes before this one
abbrev pub invariant-loop-k : goal.invariant-loop-k
invariant-loop-k l = l.number ≡ length_number l.k l.bytes l.at
