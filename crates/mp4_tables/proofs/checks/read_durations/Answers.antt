use Rattle.std.proofs.Common.{arith, sym, codes, true, false}
use Rattle.std.proofs.lemmas.Result.{err_from_is_err_and}
use Rattle.mp4_boxes.specs.words.View.{box_seen}
use Rattle.mp4_tables.proofs.TableReads.{durations_read, rows_have}
use Rattle.mp4_tables.proofs.FirstReads.{durations_stop, durations_judged}
use Rattle.mp4_tables.proofs.checks.read_durations.Goals as goal

pub counts_are-requires : goal.counts_are-requires
counts_are-requires g c =
    rw c.payload.ensures (rows_have 0 8 (codes "stts") (box_seen c.args.stbl) (box_seen c.only_of-leaf.result) c.in_ok-rows.rows c.requires.tables c.only_of-leaf.ensures c.in_ok-rows.ensures.rows)

pub returns-then-not-counts_are-clause-work : goal.returns-then-not-counts_are-clause-work
returns-then-not-counts_are-clause-work g c =
    let h = rows_have 0 8 (codes "stts") (box_seen c.args.stbl) (box_seen c.only_of-leaf.result) c.in_ok-rows.rows c.requires.tables c.only_of-leaf.ensures c.in_ok-rows.ensures.rows in
    let k = c.counts_are.ensures.cost in
    omega arith

pub returns-clause-rows : goal.returns-clause-rows
returns-clause-rows g c =
    durations_read (box_seen c.args.stbl) (box_seen c.only_of-leaf.result) c.in_ok-rows.rows c.args.n c.requires.tables c.only_of-leaf.ensures c.in_ok-rows.ensures.rows
    (rw c.payload.ensures at (sym c.if-not-counts_are.ensures.same))

pub returns-clause-work : goal.returns-clause-work
returns-clause-work g c =
    let h = rows_have 0 8 (codes "stts") (box_seen c.args.stbl) (box_seen c.only_of-leaf.result) c.in_ok-rows.rows c.requires.tables c.only_of-leaf.ensures c.in_ok-rows.ensures.rows in
    let k = c.counts_are.ensures.cost in
    omega arith

pub returns-in_err-rows-clause-exact : goal.returns-in_err-rows-clause-exact
returns-in_err-rows-clause-exact g c =
    let p = err_from_is_err_and c.from_residual.result c.from_residual.ensures.1 in
    rw (p.1, p.2) (durations_stop c.args.limits (box_seen c.args.stbl) (box_seen c.only_of-leaf.result) c.only_of-leaf.ensures c.in_err-rows.field-0.0 c.in_err-rows.ensures.exact)

pub returns-then-not-counts_are-clause-exact : goal.returns-then-not-counts_are-clause-exact
returns-then-not-counts_are-clause-exact g c =
    rw c.fault.ensures
    (durations_judged c.args.limits (box_seen c.args.stbl) (box_seen c.only_of-leaf.result) c.only_of-leaf.ensures c.in_ok-rows.rows c.args.n false c.requires.tables c.in_ok-rows.ensures.rows c.requires.sizes
    (rw c.payload.ensures at (sym c.if-not-counts_are.ensures.same)) c.in_ok-rows.ensures.exact)

pub returns-clause-exact : goal.returns-clause-exact
returns-clause-exact g c =
    durations_judged c.args.limits (box_seen c.args.stbl) (box_seen c.only_of-leaf.result) c.only_of-leaf.ensures c.in_ok-rows.rows c.args.n true c.requires.tables c.in_ok-rows.ensures.rows c.requires.sizes
    (rw c.payload.ensures at (sym c.if-not-counts_are.ensures.same)) c.in_ok-rows.ensures.exact
