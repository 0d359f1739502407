use Rattle.std.proofs.Common.{◌≡◌, ◌*◌, length, take}
use Rattle.sha2.specs.Sha256.{digest_bytes}
use Rattle.mp4_answers.specs.words.Lanes.{lane}
use Rattle.mp4_answers.proofs.digests.side_by_side.digest_in.Given as goal

abbrev pub invariant-words : goal.invariant-words
invariant-words s = (length s.out ≡ 32) × (take (4 * s.i) s.out ≡ digest_bytes (lane s.l s.state) s.i)
