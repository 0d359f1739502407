use Rattle.std.proofs.Common.{◌≡◌, ℕ, ◌-◌, ◌<◌, ◌≤◌, length, slice_index}
use Rattle.mp4norm.proofs.shell.lists.part_len.Given as goal

abbrev pub invariant-loop-len : goal.invariant-loop-len
invariant-loop-len l = (l.len ≤ length l.list) × ((k : ℕ) → k < l.len → slice_index l.list k ≡ l.end → ⊥)

abbrev pub decreases-loop-len : goal.decreases-loop-len
decreases-loop-len l = length l.list - l.len
