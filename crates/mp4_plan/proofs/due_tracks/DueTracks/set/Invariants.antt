use Rattle.std.proofs.Common.{◌≡◌, ◌*◌, ◌<◌, ◌/◌, ℕ, ◌+◌, length, slice_index}
use Rattle.mp4_plan.specs.words.DueTracks.{IsLesser, leaf}
use Rattle.mp4_plan.proofs.due_tracks.DueTracks.set.Given as goal

-- all nodes but the one above the last that was set are lesser ones again
abbrev pub invariant-loop-node : goal.invariant-loop-node
invariant-loop-node l = record {
  leaves : l.self.leaves ≡ l.fn.self.leaves;
  many : length l.self.least.items ≡ 2 * l.fn.self.leaves;
  some : 0 < l.node;
  few : l.node < 2 * l.fn.self.leaves;
  each : (i : ℕ) → 0 < i → i < l.fn.self.leaves → (i ≡ l.node / 2 → ⊥) → IsLesser l.self.least.items i;
  time : slice_index l.self.least.items (l.fn.self.leaves + l.track) ≡ l.time;
  others : (k : ℕ) → k < l.fn.self.leaves → (k ≡ l.track → ⊥) → slice_index l.self.least.items (l.fn.self.leaves + k) ≡ leaf l.fn.self k;
}

abbrev pub decreases-loop-node : goal.decreases-loop-node
decreases-loop-node l = l.node
