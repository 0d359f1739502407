use Rattle.std.proofs.Common.{◌≡◌, ◌-◌, ◌≤◌}
use Rattle.mp4_tables.specs.words.Rows.{runs_at}
use Rattle.mp4_tables.specs.words.TablesComing.{coming}
use Rattle.mp4_tables.proofs.stts_rows.settle.Given as goal

-- the values still to come are the same
abbrev pub invariant-loop-place : goal.invariant-loop-place
invariant-loop-place l = record {
  same : coming (runs_at l.payload l.rows) l.place ≡ coming (runs_at l.payload l.rows) l.initial.place;
  within : l.place.row ≤ l.rows.count;
  on : l.initial.place.row ≤ l.place.row;
}

abbrev pub decreases-loop-place : goal.decreases-loop-place
decreases-loop-place l = l.rows.count - l.place.row
