use Rattle.std.proofs.Common.{arith, sym, codes, false}
use Rattle.std.proofs.lemmas.Result.{err_from_is_err_and}
use Rattle.mp4_boxes.specs.words.View.{box_seen}
use Rattle.mp4_tables.proofs.TableReads.{rows_have}
use Rattle.mp4_tables.proofs.ChunkReads.{described_as, chunk_rows_read, narrower}
use Rattle.mp4_tables.specs.format.TableRules.{description_indexes}
use Rattle.std.proofs.Common.{true, refl}
use Rattle.mp4_tables.specs.format.TableRules.{chunk_counts, test}
use Rattle.mp4_tables.specs.words.Leaves.{tables_in, surroundings_of}
use Rattle.mp4_tables.proofs.ChunkReads.{order_as, counts_as}
use Rattle.mp4_tables.proofs.FirstReads.{chunk_rows_stop, chunk_rows_judged}
use Rattle.mp4_tables.proofs.checks.read_chunk_rows.Goals as goal

pub are_ordered-requires : goal.are_ordered-requires
are_ordered-requires g c = rw c.payload-payload.ensures (rows_have 0 12 (codes "stsc") (box_seen c.args.stbl) (box_seen c.only_of-leaf.result) c.in_ok-rows.rows c.requires.tables c.only_of-leaf.ensures c.in_ok-rows.ensures.rows)

pub returns-then-not-are_ordered-clause-work : goal.returns-then-not-are_ordered-clause-work
returns-then-not-are_ordered-clause-work g c =
    let h = rows_have 0 12 (codes "stsc") (box_seen c.args.stbl) (box_seen c.only_of-leaf.result) c.in_ok-rows.rows c.requires.tables c.only_of-leaf.ensures c.in_ok-rows.ensures.rows in
    let k = c.are_ordered.ensures.cost in
    omega arith

pub chunk_counts_are-requires-clause-room : goal.chunk_counts_are-requires-clause-room
chunk_counts_are-requires-clause-room g c = rw c.payload-payload.ensures (rows_have 0 12 (codes "stsc") (box_seen c.args.stbl) (box_seen c.only_of-leaf.result) c.in_ok-rows.rows c.requires.tables c.only_of-leaf.ensures c.in_ok-rows.ensures.rows)

pub chunk_counts_are-requires-clause-offsets : goal.chunk_counts_are-requires-clause-offsets
chunk_counts_are-requires-clause-offsets g c = rw c.payload-payload.ensures c.requires.chunks.have

pub chunk_counts_are-requires-clause-ordered : goal.chunk_counts_are-requires-clause-ordered
chunk_counts_are-requires-clause-ordered g c = sym c.if-not-are_ordered.ensures.same

pub returns-then-not-chunk_counts_are-clause-work : goal.returns-then-not-chunk_counts_are-clause-work
returns-then-not-chunk_counts_are-clause-work g c =
    let h = rows_have 0 12 (codes "stsc") (box_seen c.args.stbl) (box_seen c.only_of-leaf.result) c.in_ok-rows.rows c.requires.tables c.only_of-leaf.ensures c.in_ok-rows.ensures.rows in
    let o = narrower (box_seen c.args.stbl) c.args.chunks c.requires.chunks in
    let k = c.are_ordered.ensures.cost in
    let m = c.chunk_counts_are.ensures.cost in
    omega arith

pub are_described-requires-clause-room : goal.are_described-requires-clause-room
are_described-requires-clause-room g c = rw c.payload-payload.ensures (rows_have 0 12 (codes "stsc") (box_seen c.args.stbl) (box_seen c.only_of-leaf.result) c.in_ok-rows.rows c.requires.tables c.only_of-leaf.ensures c.in_ok-rows.ensures.rows)

pub are_described-requires-clause-offsets : goal.are_described-requires-clause-offsets
are_described-requires-clause-offsets g c = rw c.payload-payload.ensures c.requires.chunks.have

pub are_described-requires-clause-ordered : goal.are_described-requires-clause-ordered
are_described-requires-clause-ordered g c = sym c.if-not-are_ordered.ensures.same

pub returns-then-not-are_described-clause-work : goal.returns-then-not-are_described-clause-work
returns-then-not-are_described-clause-work g c =
    let h = rows_have 0 12 (codes "stsc") (box_seen c.args.stbl) (box_seen c.only_of-leaf.result) c.in_ok-rows.rows c.requires.tables c.only_of-leaf.ensures c.in_ok-rows.ensures.rows in
    let o = narrower (box_seen c.args.stbl) c.args.chunks c.requires.chunks in
    let k = c.are_ordered.ensures.cost in
    let m = c.chunk_counts_are.ensures.cost in
    let n = c.are_described.ensures.cost in
    omega arith

pub returns-clause-rows : goal.returns-clause-rows
returns-clause-rows g c =
    chunk_rows_read c.args.limits (box_seen c.args.stbl) (box_seen c.only_of-leaf.result) c.args.chunks c.in_ok-rows.rows c.args.n c.requires.tables c.only_of-leaf.ensures c.in_ok-rows.ensures.rows c.requires.chunks c.requires.sizes
    (rw c.payload-payload.ensures at (sym c.if-not-are_ordered.ensures.same)) (rw c.payload-payload.ensures at (sym c.if-not-chunk_counts_are.ensures.same)) (rw c.payload-payload.ensures at (sym c.if-not-are_described.ensures.same))

pub returns-clause-work : goal.returns-clause-work
returns-clause-work g c =
    let h = rows_have 0 12 (codes "stsc") (box_seen c.args.stbl) (box_seen c.only_of-leaf.result) c.in_ok-rows.rows c.requires.tables c.only_of-leaf.ensures c.in_ok-rows.ensures.rows in
    let o = narrower (box_seen c.args.stbl) c.args.chunks c.requires.chunks in
    let k = c.are_ordered.ensures.cost in
    let m = c.chunk_counts_are.ensures.cost in
    let n = c.are_described.ensures.cost in
    omega arith

pub returns-in_err-rows-clause-exact : goal.returns-in_err-rows-clause-exact
returns-in_err-rows-clause-exact g c =
    let p = err_from_is_err_and c.from_residual.result c.from_residual.ensures.1 in
    rw (p.1, p.2) (chunk_rows_stop c.args.limits (box_seen c.args.stbl) (box_seen c.only_of-leaf.result) c.only_of-leaf.ensures c.in_err-rows.field-0.0 c.in_err-rows.ensures.exact)

pub returns-then-not-are_ordered-clause-exact : goal.returns-then-not-are_ordered-clause-exact
returns-then-not-are_ordered-clause-exact g c =
    rw c.fault.ensures
    (chunk_rows_judged c.args.limits (box_seen c.args.stbl) (box_seen c.only_of-leaf.result) c.only_of-leaf.ensures false (test chunk_counts (surroundings_of c.args.limits) (tables_in (box_seen c.args.stbl)))
    (test description_indexes (surroundings_of c.args.limits) (tables_in (box_seen c.args.stbl)))
    (order_as c.args.limits (box_seen c.args.stbl) (box_seen c.only_of-leaf.result) c.args.chunks c.in_ok-rows.rows false c.requires.tables c.only_of-leaf.ensures c.in_ok-rows.ensures.rows c.requires.chunks (rw c.payload-payload.ensures at (sym c.if-not-are_ordered.ensures.same)))
    refl refl c.in_ok-rows.ensures.exact)

pub returns-then-not-chunk_counts_are-clause-exact : goal.returns-then-not-chunk_counts_are-clause-exact
returns-then-not-chunk_counts_are-clause-exact g c =
    rw c.fault-then-not-chunk_counts_are.ensures
    (chunk_rows_judged c.args.limits (box_seen c.args.stbl) (box_seen c.only_of-leaf.result) c.only_of-leaf.ensures true false (test description_indexes (surroundings_of c.args.limits) (tables_in (box_seen c.args.stbl)))
    (order_as c.args.limits (box_seen c.args.stbl) (box_seen c.only_of-leaf.result) c.args.chunks c.in_ok-rows.rows true c.requires.tables c.only_of-leaf.ensures c.in_ok-rows.ensures.rows c.requires.chunks (rw c.payload-payload.ensures at (sym c.if-not-are_ordered.ensures.same)))
    (counts_as (box_seen c.args.stbl) (box_seen c.only_of-leaf.result) c.args.chunks c.in_ok-rows.rows c.args.n _ false c.requires.tables c.only_of-leaf.ensures c.in_ok-rows.ensures.rows c.requires.chunks c.requires.sizes.count
    (rw c.payload-payload.ensures at (sym c.if-not-chunk_counts_are.ensures.same)))
    refl c.in_ok-rows.ensures.exact)

pub returns-then-not-are_described-clause-exact : goal.returns-then-not-are_described-clause-exact
returns-then-not-are_described-clause-exact g c =
    rw c.fault-then-not-are_described.ensures
    (chunk_rows_judged c.args.limits (box_seen c.args.stbl) (box_seen c.only_of-leaf.result) c.only_of-leaf.ensures true true false
    (order_as c.args.limits (box_seen c.args.stbl) (box_seen c.only_of-leaf.result) c.args.chunks c.in_ok-rows.rows true c.requires.tables c.only_of-leaf.ensures c.in_ok-rows.ensures.rows c.requires.chunks (rw c.payload-payload.ensures at (sym c.if-not-are_ordered.ensures.same)))
    (counts_as (box_seen c.args.stbl) (box_seen c.only_of-leaf.result) c.args.chunks c.in_ok-rows.rows c.args.n _ true c.requires.tables c.only_of-leaf.ensures c.in_ok-rows.ensures.rows c.requires.chunks c.requires.sizes.count
    (rw c.payload-payload.ensures at (sym c.if-not-chunk_counts_are.ensures.same)))
    (described_as c.args.limits (box_seen c.args.stbl) (box_seen c.only_of-leaf.result) c.args.chunks c.in_ok-rows.rows c.args.n false c.requires.tables c.only_of-leaf.ensures c.in_ok-rows.ensures.rows c.requires.chunks c.requires.sizes
    (rw c.payload-payload.ensures at (sym c.if-not-chunk_counts_are.ensures.same)) (rw c.payload-payload.ensures at (sym c.if-not-are_described.ensures.same)))
    c.in_ok-rows.ensures.exact)

pub returns-clause-exact : goal.returns-clause-exact
returns-clause-exact g c =
    chunk_rows_judged c.args.limits (box_seen c.args.stbl) (box_seen c.only_of-leaf.result) c.only_of-leaf.ensures true true true
    (order_as c.args.limits (box_seen c.args.stbl) (box_seen c.only_of-leaf.result) c.args.chunks c.in_ok-rows.rows true c.requires.tables c.only_of-leaf.ensures c.in_ok-rows.ensures.rows c.requires.chunks (rw c.payload-payload.ensures at (sym c.if-not-are_ordered.ensures.same)))
    (counts_as (box_seen c.args.stbl) (box_seen c.only_of-leaf.result) c.args.chunks c.in_ok-rows.rows c.args.n _ true c.requires.tables c.only_of-leaf.ensures c.in_ok-rows.ensures.rows c.requires.chunks c.requires.sizes.count
    (rw c.payload-payload.ensures at (sym c.if-not-chunk_counts_are.ensures.same)))
    (described_as c.args.limits (box_seen c.args.stbl) (box_seen c.only_of-leaf.result) c.args.chunks c.in_ok-rows.rows c.args.n true c.requires.tables c.only_of-leaf.ensures c.in_ok-rows.ensures.rows c.requires.chunks c.requires.sizes
    (rw c.payload-payload.ensures at (sym c.if-not-chunk_counts_are.ensures.same)) (rw c.payload-payload.ensures at (sym c.if-not-are_described.ensures.same)))
    c.in_ok-rows.ensures.exact
