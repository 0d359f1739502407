use Rattle.std.proofs.Common.{◌-◌, ◌≤◌, length}
use Rattle.mp4_boxes.specs.words.View.{box_seen}
use Rattle.mp4_boxes.proofs.CountedFaults.{CountsOn}
use Rattle.mp4_boxes.proofs.Walking.{Passed}
use Rattle.mp4_boxes.proofs.listing.counted.Given as goal

-- boxes lie from the front up to the place, and no more than are counted
abbrev pub invariant-loop-count : goal.invariant-loop-count
invariant-loop-count l = Passed l.base l.bytes l.count l.at × (l.count ≤ l.due) × (l.at ≤ length l.bytes)
    × CountsOn (box_seen l.view).kind (box_seen l.view).offset l.base l.bytes l.due l.count

abbrev pub decreases-loop-count : goal.decreases-loop-count
decreases-loop-count l = l.due - l.count
