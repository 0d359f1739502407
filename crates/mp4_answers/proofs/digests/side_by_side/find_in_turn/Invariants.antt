use Rattle.std.proofs.Common.{◌≡◌, ℕ, ◌<◌, length}
use Rattle.mp4_answers.specs.words.Messages.{IsFound}
use Rattle.mp4_answers.proofs.digests.side_by_side.find_in_turn.Given as goal

-- the first have their digests
abbrev pub invariant-messages : goal.invariant-messages
invariant-messages s = record {
  count : length s.digests ≡ length s.fn.digests;
  found : (k : ℕ) → k < s.k → IsFound s.bytes s.messages s.digests k;
}
