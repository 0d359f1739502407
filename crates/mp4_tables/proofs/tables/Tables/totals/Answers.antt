use Rattle.mp4_tables.proofs.Sums.{durations_are, sizes_are}
use Rattle.mp4_tables.proofs.tables.Tables.totals.Goals as goal

pub returns-clause-duration : goal.returns-clause-duration
returns-clause-duration g c =
    let view = c.self.view_is in
    rw (← view) (durations_are _ c.self.inside.at _ c.self.invariant c.sum_of_values.ensures.sum)

pub returns-clause-bytes : goal.returns-clause-bytes
returns-clause-bytes g c =
    let view = c.self.view_is in
    rw (← view) (sizes_are _ c.self.inside.at _ c.self.invariant c.sum_of_sizes.ensures.sum)
