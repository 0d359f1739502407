use Rattle.std.proofs.Common.{◌≡◌, ◌+◌, drop}
use Rattle.mp4_tables.specs.words.Rows.{numbers_at}
use Rattle.mp4_tables.specs.format.TableRules.{is_sync_order}
use Rattle.mp4_tables.proofs.SyncLists.{in_order}
use Rattle.mp4_tables.proofs.Fronts.{InOrderBehind}
use Rattle.mp4_tables.proofs.sync_samples.are_numbers.Given as goal

-- the numbers are in order exactly if those that are left are
abbrev pub invariant-loop-k : goal.invariant-loop-k
invariant-loop-k g l = record {
  same : is_sync_order l.n (numbers_at 4 l.payload l.rows) ≡ in_order l.n l.last (drop l.k (numbers_at 4 l.payload l.rows));
  front : InOrderBehind l.n (numbers_at 4 l.payload l.rows) l.k l.last;
  cost : l.steps ≡ l.fn.steps + l.k;
}
