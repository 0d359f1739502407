use Rattle.std.proofs.Common.{length}
use Rattle.mp4_content.proofs.FirstBoxes.{IsLeftSoFar}
use Rattle.mp4_content.specs.format.BitRates.{box_left}
use Rattle.mp4_content.proofs.bit_rates.tiles_left.Given as goal

-- what is left of the boxes so far
abbrev pub invariant-loop-leaving : goal.invariant-loop-leaving
invariant-loop-leaving l = IsLeftSoFar l.leaving.bitrates (box_left l.leaving.bitrates l.leaving.ids) l.bytes l.left.items l.rest

-- each has some bytes
abbrev pub decreases-loop-leaving : goal.decreases-loop-leaving
decreases-loop-leaving l = length l.rest
