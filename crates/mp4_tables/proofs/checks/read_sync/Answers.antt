use Rattle.std.proofs.Common.{arith, sym, codes}
use Rattle.std.proofs.lemmas.Result.{err_from_is_err_and}
use Rattle.mp4_boxes.specs.words.View.{box_seen}
use Rattle.mp4_tables.proofs.TableReads.{sync_read, sync_none, rows_have}
use Rattle.std.proofs.Common.{[], ◌∷◌, true, false}
use Rattle.mp4_tables.specs.format.TableRules.{sync_order}
use Rattle.mp4_tables.proofs.FirstTables.{none_tested}
use Rattle.mp4_tables.proofs.FirstReads.{sync_stop, sync_judged}
use Rattle.mp4_tables.proofs.checks.read_sync.Goals as goal

pub returns-in_default-clause-rows : goal.returns-in_default-clause-rows
returns-in_default-clause-rows g c = sync_none (box_seen c.args.stbl) c.args.n c.in_default.ensures

pub are_numbers-requires : goal.are_numbers-requires
are_numbers-requires g c =
    rw c.payload.ensures (rows_have 0 4 (codes "stss") (box_seen c.args.stbl) (box_seen c.in-Some.leaf) c.in_ok-rows.rows c.requires.tables c.in-Some.ensures c.in_ok-rows.ensures.rows)

pub returns-then-not-are_numbers-clause-work : goal.returns-then-not-are_numbers-clause-work
returns-then-not-are_numbers-clause-work g c =
    let h = rows_have 0 4 (codes "stss") (box_seen c.args.stbl) (box_seen c.in-Some.leaf) c.in_ok-rows.rows c.requires.tables c.in-Some.ensures c.in_ok-rows.ensures.rows in
    let k = c.are_numbers.ensures.cost in
    omega arith

pub returns-clause-rows : goal.returns-clause-rows
returns-clause-rows g c =
    sync_read (box_seen c.args.stbl) (box_seen c.in-Some.leaf) c.in_ok-rows.rows c.args.n c.requires.tables c.in-Some.ensures c.in_ok-rows.ensures.rows
    (rw c.payload.ensures at (sym c.if-not-are_numbers.ensures.same))

pub returns-clause-work : goal.returns-clause-work
returns-clause-work g c =
    let h = rows_have 0 4 (codes "stss") (box_seen c.args.stbl) (box_seen c.in-Some.leaf) c.in_ok-rows.rows c.requires.tables c.in-Some.ensures c.in_ok-rows.ensures.rows in
    let k = c.are_numbers.ensures.cost in
    omega arith

pub returns-in_default-clause-exact : goal.returns-in_default-clause-exact
returns-in_default-clause-exact g c = none_tested (codes "stss" ∷ []) (sync_order ∷ []) c.args.limits (box_seen c.args.stbl) c.in_default.ensures

pub returns-in_err-rows-clause-exact : goal.returns-in_err-rows-clause-exact
returns-in_err-rows-clause-exact g c =
    let p = err_from_is_err_and c.from_residual.result c.from_residual.ensures.1 in
    rw (p.1, p.2) (sync_stop c.args.limits (box_seen c.args.stbl) (box_seen c.in-Some.leaf) c.in-Some.ensures c.in_err-rows.field-0.0 c.in_err-rows.ensures.exact)

pub returns-then-not-are_numbers-clause-exact : goal.returns-then-not-are_numbers-clause-exact
returns-then-not-are_numbers-clause-exact g c =
    rw c.fault.ensures
    (sync_judged c.args.limits (box_seen c.args.stbl) (box_seen c.in-Some.leaf) c.in-Some.ensures c.in_ok-rows.rows c.args.n false c.requires.tables c.in_ok-rows.ensures.rows c.requires.sizes
    (rw c.payload.ensures at (sym c.if-not-are_numbers.ensures.same)) c.in_ok-rows.ensures.exact)

pub returns-clause-exact : goal.returns-clause-exact
returns-clause-exact g c =
    sync_judged c.args.limits (box_seen c.args.stbl) (box_seen c.in-Some.leaf) c.in-Some.ensures c.in_ok-rows.rows c.args.n true c.requires.tables c.in_ok-rows.ensures.rows c.requires.sizes
    (rw c.payload.ensures at (sym c.if-not-are_numbers.ensures.same)) c.in_ok-rows.ensures.exact
