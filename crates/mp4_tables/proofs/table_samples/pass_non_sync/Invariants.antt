use Rattle.std.proofs.Common.{◌-◌, ◌≤◌}
use Rattle.mp4_tables.proofs.ManyPassed.{AreOn}
use Rattle.mp4_tables.proofs.table_samples.pass_non_sync.Given as goal

-- so many were passed, up to a place in the chunks
abbrev pub invariant-loop-count : goal.invariant-loop-count
invariant-loop-count l = record {
  on : AreOn l.payload l.at l.description l.place l.chunk l.count;
  few : l.count ≤ l.few;
  opened : l.place.chunk.opened ≤ l.chunk.opened;
  row : l.place.chunk.row.row ≤ l.chunk.row.row;
}

abbrev pub decreases-loop-count : goal.decreases-loop-count
decreases-loop-count l = l.few - l.count
