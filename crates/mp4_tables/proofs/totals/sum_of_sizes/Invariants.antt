use Rattle.std.proofs.Common.{ℕ, ◌≡◌, ◌+◌, ◌-◌, ◌^◌, ◌<◌, drop}
use Rattle.std.specs.Prelude.{min}
use Rattle.mp4_boxes.specs.format.Bytes.{sum_of}
use Rattle.mp4_tables.specs.words.Rows.{sizes_at}
use Rattle.mp4_tables.proofs.totals.sum_of_sizes.Given as goal

-- with the sizes that are left it is the sum of all
abbrev pub invariant-loop-i : goal.invariant-loop-i
invariant-loop-i g l = record {
  whole : min (l.sum + sum_of (λ (x : ℕ). x) (drop l.i (sizes_at l.payload l.sizes))) (2 ^ 64 - 1) ≡ min (sum_of (λ (x : ℕ). x) (sizes_at l.payload l.sizes)) (2 ^ 64 - 1);
  small : l.sum < 2 ^ 64;
  cost : l.steps ≡ l.fn.steps + l.i;
}
