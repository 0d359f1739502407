use Rattle.std.proofs.Common.{◌≡◌, ◌+◌, ◌≤◌, drop}
use Rattle.mp4_tables.specs.format.Repeated.{total}
use Rattle.mp4_tables.specs.words.Rows.{runs_at}
use Rattle.mp4_tables.proofs.stts_rows.total_within.Given as goal

-- what was counted and what is left make the whole
abbrev pub invariant-loop-k : goal.invariant-loop-k
invariant-loop-k g l = record {
  whole : l.total + total (drop l.k (runs_at l.payload l.rows)) ≡ total (runs_at l.payload l.rows);
  few : l.total ≤ l.n;
  cost : l.steps ≡ l.fn.steps + l.k;
}
