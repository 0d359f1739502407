use Rattle.std.proofs.Common.{◌≡◌, ℕ, ◌<◌, ◌≤◌, length, slice_index}
use Rattle.mp4_answers.specs.words.Messages.{AreHeld}
use Rattle.mp4_answers.proofs.digests.side_by_side.make_free.Given as goal

-- all are held, and the lane is free, or none is
abbrev pub invariant-loop-l : goal.invariant-loop-l
invariant-loop-l s = record {
  held : AreHeld s.bytes s.messages s.known s.state s.lanes s.digests;
  count : length s.digests ≡ length s.fn.digests;
  lane : s.l ≤ 4;
  free : s.l < 4 → slice_index s.lanes.lefts s.l ≡ 0;
  none : 4 ≤ s.l → (l : ℕ) → l < 4 → 0 < slice_index s.lanes.lefts l;
}

abbrev pub decreases-loop-l : goal.decreases-loop-l
decreases-loop-l s = slice_index s.lanes.lefts 0
