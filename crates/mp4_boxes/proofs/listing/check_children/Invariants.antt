use Rattle.std.proofs.Common.{length, ◌-◌}
use Rattle.mp4_boxes.specs.format.FirstFault.{rule_tests}
use Rattle.mp4_boxes.proofs.Admitting.{Admitted}
use Rattle.mp4_boxes.proofs.FirstFaults.{GoesOn}
use Rattle.mp4_boxes.proofs.listing.check_children.Given as goal

-- boxes of the profile lie from the front up to the place
abbrev pub invariant-loop-at : goal.invariant-loop-at
invariant-loop-at l = Admitted l.rule l.base l.bytes l.count l.at × GoesOn (rule_tests l.rule) l.view.kind.0 l.view.offset l.base l.bytes l.count

abbrev pub decreases-loop-at : goal.decreases-loop-at
decreases-loop-at l = length l.bytes - l.at
