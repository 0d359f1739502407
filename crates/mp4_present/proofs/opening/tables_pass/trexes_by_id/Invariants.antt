use Rattle.std.proofs.Common.{◌-◌, length}
use Rattle.mp4_present.proofs.TrexesById.{AreTrexesFrom}
use Rattle.mp4_present.proofs.opening.tables_pass.trexes_by_id.Given as goal

-- the last ones are in the map
abbrev pub invariant-loop-step : goal.invariant-loop-step
invariant-loop-step l = AreTrexesFrom l.trexes l.by_id (length l.trexes - l.step)
