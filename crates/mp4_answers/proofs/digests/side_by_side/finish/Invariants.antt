use Rattle.std.proofs.Common.{◌≡◌, length}
use Rattle.mp4_answers.specs.words.Messages.{AreHeld, sum_of_four}
use Rattle.mp4_answers.proofs.digests.side_by_side.finish.Given as goal

abbrev pub invariant-loop-state : goal.invariant-loop-state
invariant-loop-state s = record {
  held : AreHeld s.bytes s.messages (length s.messages) s.state s.lanes s.digests;
  count : length s.digests ≡ length s.fn.digests;
}

abbrev pub decreases-loop-state : goal.decreases-loop-state
decreases-loop-state s = sum_of_four s.lanes.lefts
