use Rattle.std.proofs.Common.{◌≡◌, length}
use Rattle.mp4_answers.specs.words.Messages.{AreHeld}
use Rattle.mp4_answers.proofs.digests.side_by_side.find_in_lanes.Given as goal

abbrev pub invariant-messages : goal.invariant-messages
invariant-messages s = record {
  held : AreHeld s.bytes s.messages s.k s.state s.lanes s.digests;
  count : length s.digests ≡ length s.fn.digests;
}
