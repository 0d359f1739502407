use Rattle.std.proofs.lemmas.Result.{err_from_is_err_and}
use Rattle.mp4_boxes.specs.words.View.{box_seen}
use Rattle.mp4_tables.proofs.ChunkReads.{wide_there, narrow_read, wide_read}
use Rattle.mp4_tables.proofs.FirstReads.{narrow_stop, narrow_go, wide_stop, wide_go}
use Rattle.mp4_tables.proofs.checks.read_chunks.Goals as goal

pub returns-in_ok-rows-in-Some-clause-rows : goal.returns-in_ok-rows-in-Some-clause-rows
returns-in_ok-rows-in-Some-clause-rows c = narrow_read (box_seen c.args.stbl) (box_seen c.in-Some.leaf) c.in_ok-rows-in-Some.rows c.requires.tables c.in-Some.ensures c.in_ok-rows-in-Some.ensures.rows

pub only_of-wide_leaf-requires-clause-one : goal.only_of-wide_leaf-requires-clause-one
only_of-wide_leaf-requires-clause-one c = wide_there (box_seen c.args.stbl) c.requires.tables c.in-None.ensures

pub returns-in_ok-rows-in-None-clause-rows : goal.returns-in_ok-rows-in-None-clause-rows
returns-in_ok-rows-in-None-clause-rows c = wide_read (box_seen c.args.stbl) (box_seen c.only_of-wide_leaf.result) c.in_ok-rows-in-None.rows c.requires.tables c.in-None.ensures c.only_of-wide_leaf.ensures c.in_ok-rows-in-None.ensures.rows

pub returns-in_err-rows-in-Some-clause-exact : goal.returns-in_err-rows-in-Some-clause-exact
returns-in_err-rows-in-Some-clause-exact c =
    let p = err_from_is_err_and c.from_residual.result c.from_residual.ensures.1 in
    rw (p.1, p.2) (narrow_stop c.args.limits (box_seen c.args.stbl) (box_seen c.in-Some.leaf) c.requires.tables c.in_err-rows-in-Some.field-0.0 c.in-Some.ensures c.in_err-rows-in-Some.ensures.exact)

pub returns-in_ok-rows-in-Some-clause-exact : goal.returns-in_ok-rows-in-Some-clause-exact
returns-in_ok-rows-in-Some-clause-exact c = narrow_go c.args.limits (box_seen c.args.stbl) (box_seen c.in-Some.leaf) c.requires.tables c.in-Some.ensures c.in_ok-rows-in-Some.ensures.exact

pub returns-in_err-rows-in-None-clause-exact : goal.returns-in_err-rows-in-None-clause-exact
returns-in_err-rows-in-None-clause-exact c =
    let p = err_from_is_err_and c.from_residual-in_err-rows-in-None.result c.from_residual-in_err-rows-in-None.ensures.1 in
    rw (p.1, p.2) (wide_stop c.args.limits (box_seen c.args.stbl) (box_seen c.only_of-wide_leaf.result) c.requires.tables c.in_err-rows-in-None.field-0.0 c.only_of-wide_leaf.ensures c.in_err-rows-in-None.ensures.exact)

pub returns-in_ok-rows-in-None-clause-exact : goal.returns-in_ok-rows-in-None-clause-exact
returns-in_ok-rows-in-None-clause-exact c = wide_go c.args.limits (box_seen c.args.stbl) (box_seen c.only_of-wide_leaf.result) c.requires.tables c.only_of-wide_leaf.ensures c.in_ok-rows-in-None.ensures.exact
