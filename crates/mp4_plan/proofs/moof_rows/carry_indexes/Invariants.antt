use Rattle.std.proofs.Common.{◌≡◌, ℕ, ◌≤◌, List, ◌++◌, drop, map}
use Rattle.std.specs.Prelude.{flat_map, slice_index}
use Rattle.mp4_plan.specs.format.Normal.{longest_runs}
use Rattle.mp4_present.specs.words.Latches.{Goes}
use Rattle.mp4_plan.specs.words.Spelling.{group_row, runs_left}
use Rattle.mp4_plan.specs.declared.noted_rows.Row.{Row}
use Rattle.mp4_plan.proofs.moof_rows.carry_indexes.Given as goal

-- the first runs are written, and with the one in hand the others come
abbrev pub invariant-loop-row : goal.invariant-loop-row
invariant-loop-row g l =
    let index = λ (row : Row). slice_index row.groups l.place in
    (l.run.count ≤ l.row-index)
    × ((done : List (ℕ × ℕ)) × Goes g.K.Sink l.fn.latch l.latch (flat_map group_row done)
    × (done ++ runs_left l.run.count l.run.index (map index (drop l.row-index l.rows)) ≡ longest_runs (map index l.rows)))
