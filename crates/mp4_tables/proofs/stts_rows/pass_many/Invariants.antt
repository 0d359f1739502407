use Rattle.std.proofs.Common.{◌≡◌, ◌+◌, ◌-◌, ◌*◌, ◌^◌, ◌≤◌, length, drop}
use Rattle.mp4_tables.specs.words.Rows.{runs_at}
use Rattle.mp4_tables.specs.words.TablesComing.{coming}
use Rattle.mp4_tables.proofs.RunsPassed.{sum_first}
use Rattle.mp4_tables.proofs.stts_rows.pass_many.Given as goal

-- what was passed and what is to be passed make the whole
abbrev pub invariant-loop-now : goal.invariant-loop-now
invariant-loop-now l =
    let runs = runs_at l.payload l.rows in
    record {
      rest : drop l.more (coming runs l.now) ≡ drop l.count (coming runs l.fn.place);
      sum : l.sum + sum_first l.more (coming runs l.now) ≡ sum_first l.count (coming runs l.fn.place);
      few : l.more ≤ l.count;
      small : l.sum ≤ (l.count - l.more) * (2 ^ 32 - 1);
      many : l.more ≤ length (coming runs l.now);
      within : l.now.row ≤ l.rows.count;
      on : l.fn.place.row ≤ l.now.row;
    }

abbrev pub decreases-loop-now : goal.decreases-loop-now
decreases-loop-now l = l.rows.count - l.now.row
