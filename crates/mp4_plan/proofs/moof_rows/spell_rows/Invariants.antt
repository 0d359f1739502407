use Rattle.std.proofs.Common.{◌≡◌, ◌*◌, ◌≤◌, length, take}
use Rattle.mp4_plan.specs.words.Spelling.{run_rows}
use Rattle.mp4_plan.proofs.moof_rows.spell_rows.Given as goal

-- the rows so far, of sixteen bytes at most each
abbrev pub invariant-loop-row : goal.invariant-loop-row
invariant-loop-row l = record {
  rows : l.out ≡ run_rows l.planned (take l.row-index l.rows);
  short : length l.out ≤ 16 * l.row-index;
}
