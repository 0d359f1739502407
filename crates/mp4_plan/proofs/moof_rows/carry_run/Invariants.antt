use Rattle.std.proofs.Common.{◌≤◌, ◌-◌, length, take}
use Rattle.mp4_present.specs.words.Latches.{Goes}
use Rattle.mp4_plan.specs.words.Spelling.{run_rows}
use Rattle.mp4_plan.proofs.moof_rows.carry_run.Given as goal

-- the rows so far were taken along
abbrev pub invariant-loop-done : goal.invariant-loop-done
invariant-loop-done g l = record {
  bytes : Goes g.K.Sink l.fn.latch l.latch (run_rows l.planned (take l.done l.rows));
  within : l.done ≤ length l.rows;
}

abbrev pub decreases-loop-done : goal.decreases-loop-done
decreases-loop-done g l = length l.rows - l.done
