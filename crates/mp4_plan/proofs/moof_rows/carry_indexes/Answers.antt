use Rattle.std.proofs.Common.{◌+◌, [], drop, map, refl, rules}
use Rattle.std.specs.Prelude.{slice_index, flat_map}
use Rattle.std.proofs.Math.Nat.{le_refl}
use Rattle.mp4_plan.specs.words.Spelling.{group_row, runs_left}
use Rattle.mp4_plan.specs.declared.noted_rows.Row.{Row}
use Rattle.mp4_present.proofs.Latched.{goes_as, goes_nothing}
use Rattle.mp4_plan.proofs.RunsResumed.{written_more, written_all}
use Rattle.std.proofs.Common.{◌++◌}
use Rattle.mp4_plan.proofs.moof_rows.carry_indexes.Goals as goal

pub loop-row-init : goal.loop-row-init
loop-row-init g c = (le_refl 0, ([], goes_nothing g.K.Sink _ g.met.K.Sink.takes_on (g.met.K.Sink.takes_nothing _), refl))

pub loop-row-preserved : goal.loop-row-preserved
loop-row-preserved g c =
    let i = c.loop-row.invariant in
    let index = λ (row : Row). slice_index row.groups c.args.place in
    let e = c.carry_index-run.ensures.put (map index (drop (c.loop-row.row-index + 1) c.args.rows.now)) in
    let w = written_more group_row i.1.0 e.0 c.loop-row.run c.carry_index-run.result index c.args.rows.now c.loop-row.row-index _ _ c.loop-row-test.true c.index_at.ensures i.1.2 e.2 in
    (search rules, (i.1.0 ++ e.0, goes_as g.K.Sink (flat_map group_row i.1.0) (flat_map group_row e.0) _ i.1.1 e.1 w.0, w.1))

pub returns : goal.returns
returns g c =
    let i = c.loop-row.invariant in
    let index = λ (row : Row). slice_index row.groups c.args.place in
    goes_as g.K.Sink (flat_map group_row i.1.0) (flat_map group_row (runs_left c.loop-row.run.count c.loop-row.run.index [])) _ i.1.1 c.carry_index_run.ensures
    (written_all group_row i.1.0 c.loop-row.run index c.args.rows.now c.loop-row.row-index (search rules) i.1.2)
