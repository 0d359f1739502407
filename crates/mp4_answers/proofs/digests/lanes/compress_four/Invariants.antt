use Rattle.std.proofs.Common.{◌≡◌, ℕ, ◌<◌, length, slice_index, ◌*◌}
use Rattle.std.specs.Prelude.{slice_index_or, []}
use Rattle.sha2.specs.Sha256.{IsRoundsAt, word_at}
use Rattle.mp4_answers.specs.words.Lanes.{HasLanes, lane, block_at}
use Rattle.mp4_answers.proofs.digests.lanes.compress_four.Given as goal

abbrev pub invariant-load : goal.invariant-load
invariant-load s = (length s.w ≡ 16) × ((k : ℕ) → k < s.i → HasLanes (slice_index_or s.w k []) (λ l. word_at (block_at s.bytes (slice_index s.places l)) (4 * k)))

abbrev pub invariant-schedule : goal.invariant-schedule
invariant-schedule s = (l : ℕ) → l < 4 → IsRoundsAt (block_at s.bytes (slice_index s.fn.places l)) (lane l s.state) (lane l s.w) (lane l s.v) (16 * s.turn)
