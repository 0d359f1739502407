use Rattle.std.proofs.Common.{◌≡◌, ℕ, ◌<◌, length, slice_index, []}
use Rattle.std.specs.Prelude.{slice_index_or}
use Rattle.sha2.specs.Sha256.{initial_hash_256}
use Rattle.mp4_answers.proofs.digests.side_by_side.with_begun.Given as goal

-- the first vectors have another number in the lane
abbrev pub invariant-words : goal.invariant-words
invariant-words s = record {
  count : length s.begun ≡ 8;
  begun : (k : ℕ) → k < s.i → slice_index (slice_index_or s.begun k []) s.l ≡ slice_index initial_hash_256 k;
  others : (k j : ℕ) → k < s.i → j < 4 → (j ≡ s.l → ⊥) → slice_index (slice_index_or s.begun k []) j ≡ slice_index (slice_index_or s.state k []) j;
}
