use Rattle.std.proofs.Common.{length, ◌-◌}
use Rattle.mp4_boxes.specs.format.FirstFault.{no_tests}
use Rattle.mp4_boxes.proofs.FirstFaults.{GoesOn}
use Rattle.mp4_boxes.proofs.Walking.{Passed}
use Rattle.mp4_boxes.proofs.listing.children.Given as goal

-- boxes lie from the front up to the place
abbrev pub invariant-loop-at : goal.invariant-loop-at
invariant-loop-at l = Passed l.base l.bytes l.count l.at × GoesOn no_tests l.container.0 l.base l.base l.bytes l.count

abbrev pub decreases-loop-at : goal.decreases-loop-at
decreases-loop-at l = length l.bytes - l.at
