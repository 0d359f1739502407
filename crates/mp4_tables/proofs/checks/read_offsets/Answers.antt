use Rattle.std.proofs.Common.{arith, sym, codes, ◌∙◌, true, false}
use Rattle.std.proofs.lemmas.Result.{err_from_is_err_and}
use Rattle.mp4_boxes.specs.words.View.{box_seen}
use Rattle.mp4_tables.proofs.TableReads.{rows_have}
use Rattle.mp4_tables.proofs.OffsetReads.{offsets_read, offsets_none, unsigned_version}
use Rattle.std.proofs.Common.{[], ◌∷◌, refl}
use Rattle.mp4_boxes.specs.format.Layout.{ctts, has_large_offset}
use Rattle.mp4_tables.specs.format.TableRules.{offset_counts}
use Rattle.mp4_tables.proofs.FirstTables.{none_tested}
use Rattle.mp4_tables.proofs.FirstReads.{offsets_stop, offsets_judged}
use Rattle.mp4_tables.proofs.OffsetReads.{offset_is_large, not_large}
use Rattle.mp4_tables.proofs.checks.read_offsets.Goals as goal

pub returns-in_default-clause-rows : goal.returns-in_default-clause-rows
returns-in_default-clause-rows g c = offsets_none (box_seen c.args.stbl) c.args.n c.in_default.ensures

pub counts_are-requires : goal.counts_are-requires
counts_are-requires g c = rw c.payload.ensures (rows_have 1 8 (codes "ctts") (box_seen c.args.stbl) (box_seen c.in-Some.leaf) c.in_ok-rows.rows c.requires.tables c.in-Some.ensures c.in_ok-rows.ensures.rows)

pub returns-then-not-counts_are-clause-work : goal.returns-then-not-counts_are-clause-work
returns-then-not-counts_are-clause-work g c =
    let h = rows_have 1 8 (codes "ctts") (box_seen c.args.stbl) (box_seen c.in-Some.leaf) c.in_ok-rows.rows c.requires.tables c.in-Some.ensures c.in_ok-rows.ensures.rows in
    let k = c.counts_are.ensures.cost in
    omega arith

pub is_signed-requires : goal.is_signed-requires
is_signed-requires g c = let h = c.in_ok-rows.ensures.rows.room in omega arith

pub returns-then-is_signed-clause-rows : goal.returns-then-is_signed-clause-rows
returns-then-is_signed-clause-rows g c =
    offsets_read (box_seen c.args.stbl) (box_seen c.in-Some.leaf) c.in_ok-rows.rows c.args.n true c.requires.tables c.in-Some.ensures c.in_ok-rows.ensures.rows (sym c.if-is_signed.true ∙ c.is_signed.ensures)
    (rw c.payload.ensures at (sym c.if-not-counts_are.ensures.same)) tt

pub returns-then-is_signed-clause-work : goal.returns-then-is_signed-clause-work
returns-then-is_signed-clause-work g c =
    let h = rows_have 1 8 (codes "ctts") (box_seen c.args.stbl) (box_seen c.in-Some.leaf) c.in_ok-rows.rows c.requires.tables c.in-Some.ensures c.in_ok-rows.ensures.rows in
    let k = c.counts_are.ensures.cost in
    omega arith

pub are_below-requires : goal.are_below-requires
are_below-requires g c = rw c.payload-2.ensures (rows_have 1 8 (codes "ctts") (box_seen c.args.stbl) (box_seen c.in-Some.leaf) c.in_ok-rows.rows c.requires.tables c.in-Some.ensures c.in_ok-rows.ensures.rows)

pub returns-then-not-are_below-clause-work : goal.returns-then-not-are_below-clause-work
returns-then-not-are_below-clause-work g c =
    let h = rows_have 1 8 (codes "ctts") (box_seen c.args.stbl) (box_seen c.in-Some.leaf) c.in_ok-rows.rows c.requires.tables c.in-Some.ensures c.in_ok-rows.ensures.rows in
    let k = c.counts_are.ensures.cost in
    let m = c.are_below.ensures.cost in
    omega arith

pub returns-clause-rows : goal.returns-clause-rows
returns-clause-rows g c =
    offsets_read (box_seen c.args.stbl) (box_seen c.in-Some.leaf) c.in_ok-rows.rows c.args.n false c.requires.tables c.in-Some.ensures c.in_ok-rows.ensures.rows (sym c.if-is_signed.false ∙ c.is_signed.ensures)
    (rw c.payload.ensures at (sym c.if-not-counts_are.ensures.same)) (rw c.payload-2.ensures at (sym c.if-not-are_below.ensures.same))

pub returns-clause-work : goal.returns-clause-work
returns-clause-work g c =
    let h = rows_have 1 8 (codes "ctts") (box_seen c.args.stbl) (box_seen c.in-Some.leaf) c.in_ok-rows.rows c.requires.tables c.in-Some.ensures c.in_ok-rows.ensures.rows in
    let k = c.counts_are.ensures.cost in
    let m = c.are_below.ensures.cost in
    omega arith

pub returns-in_default-clause-exact : goal.returns-in_default-clause-exact
returns-in_default-clause-exact g c = none_tested (codes "ctts" ∷ []) (offset_counts ∷ []) c.args.limits (box_seen c.args.stbl) c.in_default.ensures

pub returns-in_err-rows-clause-exact : goal.returns-in_err-rows-clause-exact
returns-in_err-rows-clause-exact g c =
    let p = err_from_is_err_and c.from_residual.result c.from_residual.ensures.1 in
    rw (p.1, p.2) (offsets_stop c.args.limits (box_seen c.args.stbl) (box_seen c.in-Some.leaf) c.in-Some.ensures c.in_err-rows.field-0.0 c.in_err-rows.ensures.exact)

pub returns-then-not-counts_are-clause-exact : goal.returns-then-not-counts_are-clause-exact
returns-then-not-counts_are-clause-exact g c =
    rw c.fault.ensures
    (offsets_judged c.args.limits (box_seen c.args.stbl) (box_seen c.in-Some.leaf) c.in-Some.ensures c.in_ok-rows.rows c.args.n false (has_large_offset ctts (box_seen c.in-Some.leaf).payload) c.requires.tables c.in_ok-rows.ensures.rows c.requires.sizes
    (rw c.payload.ensures at (sym c.if-not-counts_are.ensures.same)) refl c.in_ok-rows.ensures.exact)

pub returns-then-is_signed-clause-exact : goal.returns-then-is_signed-clause-exact
returns-then-is_signed-clause-exact g c =
    offsets_judged c.args.limits (box_seen c.args.stbl) (box_seen c.in-Some.leaf) c.in-Some.ensures c.in_ok-rows.rows c.args.n true false c.requires.tables c.in_ok-rows.ensures.rows c.requires.sizes
    (rw c.payload.ensures at (sym c.if-not-counts_are.ensures.same))
    (not_large (box_seen c.args.stbl) (box_seen c.in-Some.leaf) c.in_ok-rows.rows true c.requires.tables c.in-Some.ensures c.in_ok-rows.ensures.rows (sym c.if-is_signed.true ∙ c.is_signed.ensures) tt)
    c.in_ok-rows.ensures.exact

pub returns-then-not-are_below-clause-exact : goal.returns-then-not-are_below-clause-exact
returns-then-not-are_below-clause-exact g c =
    rw c.fault-then-not-are_below.ensures
    (offsets_judged c.args.limits (box_seen c.args.stbl) (box_seen c.in-Some.leaf) c.in-Some.ensures c.in_ok-rows.rows c.args.n true true c.requires.tables c.in_ok-rows.ensures.rows c.requires.sizes
    (rw c.payload.ensures at (sym c.if-not-counts_are.ensures.same))
    (offset_is_large (box_seen c.args.stbl) (box_seen c.in-Some.leaf) c.in_ok-rows.rows true c.requires.tables c.in-Some.ensures c.in_ok-rows.ensures.rows
    (unsigned_version (box_seen c.in-Some.leaf) c.in_ok-rows.ensures.rows.version (sym c.if-is_signed.false ∙ c.is_signed.ensures))
    (rw c.payload-2.ensures at (sym c.if-not-are_below.ensures.same)))
    c.in_ok-rows.ensures.exact)

pub returns-clause-exact : goal.returns-clause-exact
returns-clause-exact g c =
    offsets_judged c.args.limits (box_seen c.args.stbl) (box_seen c.in-Some.leaf) c.in-Some.ensures c.in_ok-rows.rows c.args.n true false c.requires.tables c.in_ok-rows.ensures.rows c.requires.sizes
    (rw c.payload.ensures at (sym c.if-not-counts_are.ensures.same))
    (not_large (box_seen c.args.stbl) (box_seen c.in-Some.leaf) c.in_ok-rows.rows false c.requires.tables c.in-Some.ensures c.in_ok-rows.ensures.rows (sym c.if-is_signed.false ∙ c.is_signed.ensures) (rw c.payload-2.ensures at (sym c.if-not-are_below.ensures.same)))
    c.in_ok-rows.ensures.exact
