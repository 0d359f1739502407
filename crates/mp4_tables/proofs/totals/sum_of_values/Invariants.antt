use Rattle.std.proofs.Common.{◌≡◌, ◌+◌, ◌-◌, ◌^◌, ◌<◌, drop}
use Rattle.std.specs.Prelude.{min}
use Rattle.mp4_tables.specs.words.Rows.{runs_at}
use Rattle.mp4_tables.proofs.Sums.{row_sums}
use Rattle.mp4_tables.proofs.totals.sum_of_values.Given as goal

-- with the rows that are left it is the sum of all
abbrev pub invariant-loop-k : goal.invariant-loop-k
invariant-loop-k g l = record {
  whole : min (l.sum + row_sums (drop l.k (runs_at l.payload l.rows))) (2 ^ 64 - 1) ≡ min (row_sums (runs_at l.payload l.rows)) (2 ^ 64 - 1);
  small : l.sum < 2 ^ 64;
  cost : l.steps ≡ l.fn.steps + l.k;
}
