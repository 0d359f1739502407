use Rattle.std.proofs.Common.{◌≡◌, ◌+◌, drop}
use Rattle.mp4_tables.specs.words.Rows.{runs_at}
use Rattle.mp4_tables.specs.words.TablesComing.{all_below}
use Rattle.mp4_tables.proofs.stts_rows.are_below.Given as goal

-- all are below exactly if the others are
abbrev pub invariant-loop-k : goal.invariant-loop-k
invariant-loop-k g l = record {
  same : all_below l.bound (runs_at l.payload l.rows) ≡ all_below l.bound (drop l.k (runs_at l.payload l.rows));
  cost : l.steps ≡ l.fn.steps + l.k;
}
