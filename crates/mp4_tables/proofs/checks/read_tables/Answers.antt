use Rattle.std.proofs.Common.{◌<◌, ◌^◌, rules}
use Rattle.mp4_boxes.specs.words.View.{box_seen}
use Rattle.mp4_tables.proofs.SizeReads.{sizes_known}
use Rattle.mp4_tables.proofs.Assembly.{tables_read}
use Rattle.std.proofs.lemmas.Result.{err_from_is_err_and}
use Rattle.mp4_tables.proofs.FirstOfAll.{at_sizes, at_durations, at_offsets, at_chunks, at_chunk_rows, at_check_places, at_sync, at_dependencies, at_groups, none_at_all}
use Rattle.mp4_tables.proofs.checks.read_tables.Goals as goal

pub read_durations-requires-clause-sizes : goal.read_durations-requires-clause-sizes
read_durations-requires-clause-sizes g c = sizes_known c.args.limits (box_seen c.args.stbl) c.in_ok-sizes.sizes c.in_ok-sizes.ensures.sizes

pub read_offsets-requires-clause-sizes : goal.read_offsets-requires-clause-sizes
read_offsets-requires-clause-sizes g c = sizes_known c.args.limits (box_seen c.args.stbl) c.in_ok-sizes.sizes c.in_ok-sizes.ensures.sizes

pub read_chunk_rows-requires-clause-sizes : goal.read_chunk_rows-requires-clause-sizes
read_chunk_rows-requires-clause-sizes g c = sizes_known c.args.limits (box_seen c.args.stbl) c.in_ok-sizes.sizes c.in_ok-sizes.ensures.sizes

pub read_sync-requires-clause-sizes : goal.read_sync-requires-clause-sizes
read_sync-requires-clause-sizes g c = sizes_known c.args.limits (box_seen c.args.stbl) c.in_ok-sizes.sizes c.in_ok-sizes.ensures.sizes

pub read_dependencies-requires-clause-sizes : goal.read_dependencies-requires-clause-sizes
read_dependencies-requires-clause-sizes g c = sizes_known c.args.limits (box_seen c.args.stbl) c.in_ok-sizes.sizes c.in_ok-sizes.ensures.sizes

pub read_groups-requires-clause-sizes : goal.read_groups-requires-clause-sizes
read_groups-requires-clause-sizes g c = sizes_known c.args.limits (box_seen c.args.stbl) c.in_ok-sizes.sizes c.in_ok-sizes.ensures.sizes

pub returns-clause-tables : goal.returns-clause-tables
returns-clause-tables g c =
    let small : c.args.limits.file_len < 2 ^ 64 = search rules in
    tables_read c.args.limits (box_seen c.args.stbl) _ small (record {
      sizes = c.in_ok-sizes.ensures.sizes;
      durations = c.in_ok-durations.ensures.rows;
      offsets = c.in_ok-offsets.ensures.rows;
      chunks = c.in_ok-chunks.ensures.rows;
      chunk_rows = c.in_ok-chunk_rows.ensures.rows;
      places = c.in_ok-check_places.ensures.places;
      sync = c.in_ok-sync.ensures.rows;
      dependencies = c.in_ok-dependencies.ensures.rows;
      groups = c.in_ok-groups.ensures.groups;
    })

pub returns-in_err-sizes-clause-exact : goal.returns-in_err-sizes-clause-exact
returns-in_err-sizes-clause-exact g c =
    let p = err_from_is_err_and c.from_residual.result c.from_residual.ensures.1 in
    rw (p.1, p.2) (record { names = at_sizes c.args.limits (box_seen c.args.stbl) c.in_err-sizes.field-0.0 c.in_err-sizes.ensures.exact })

pub returns-in_err-durations-clause-exact : goal.returns-in_err-durations-clause-exact
returns-in_err-durations-clause-exact g c =
    let p = err_from_is_err_and c.from_residual-in_err-durations.result c.from_residual-in_err-durations.ensures.1 in
    rw (p.1, p.2) (record { names = at_durations c.args.limits (box_seen c.args.stbl) c.in_err-durations.field-0.0 c.in_ok-sizes.ensures.exact c.in_err-durations.ensures.exact })

pub returns-in_err-offsets-clause-exact : goal.returns-in_err-offsets-clause-exact
returns-in_err-offsets-clause-exact g c =
    let p = err_from_is_err_and c.from_residual-in_err-offsets.result c.from_residual-in_err-offsets.ensures.1 in
    rw (p.1, p.2) (record { names = at_offsets c.args.limits (box_seen c.args.stbl) c.in_err-offsets.field-0.0 c.in_ok-sizes.ensures.exact c.in_ok-durations.ensures.exact c.in_err-offsets.ensures.exact })

pub returns-in_err-chunks-clause-exact : goal.returns-in_err-chunks-clause-exact
returns-in_err-chunks-clause-exact g c =
    let p = err_from_is_err_and c.from_residual-in_err-chunks.result c.from_residual-in_err-chunks.ensures.1 in
    rw (p.1, p.2) (record { names = at_chunks c.args.limits (box_seen c.args.stbl) c.in_err-chunks.field-0.0 c.in_ok-sizes.ensures.exact c.in_ok-durations.ensures.exact c.in_ok-offsets.ensures.exact c.in_err-chunks.ensures.exact })

pub returns-in_err-chunk_rows-clause-exact : goal.returns-in_err-chunk_rows-clause-exact
returns-in_err-chunk_rows-clause-exact g c =
    let p = err_from_is_err_and c.from_residual-in_err-chunk_rows.result c.from_residual-in_err-chunk_rows.ensures.1 in
    rw (p.1, p.2) (record { names = at_chunk_rows c.args.limits (box_seen c.args.stbl) c.in_err-chunk_rows.field-0.0 c.in_ok-sizes.ensures.exact c.in_ok-durations.ensures.exact c.in_ok-offsets.ensures.exact c.in_ok-chunks.ensures.exact c.in_err-chunk_rows.ensures.exact })

pub returns-in_err-check_places-clause-exact : goal.returns-in_err-check_places-clause-exact
returns-in_err-check_places-clause-exact g c =
    let p = err_from_is_err_and c.from_residual-in_err-check_places.result c.from_residual-in_err-check_places.ensures.1 in
    rw (p.1, p.2)
    (record {
      names =
          at_check_places c.args.limits (box_seen c.args.stbl) c.in_err-check_places.field-0.0 c.in_ok-sizes.ensures.exact c.in_ok-durations.ensures.exact c.in_ok-offsets.ensures.exact c.in_ok-chunks.ensures.exact c.in_ok-chunk_rows.ensures.exact c.in_err-check_places.ensures.exact;
    })

pub returns-in_err-sync-clause-exact : goal.returns-in_err-sync-clause-exact
returns-in_err-sync-clause-exact g c =
    let p = err_from_is_err_and c.from_residual-in_err-sync.result c.from_residual-in_err-sync.ensures.1 in
    rw (p.1, p.2)
    (record {
      names =
          at_sync c.args.limits (box_seen c.args.stbl) c.in_err-sync.field-0.0 c.in_ok-sizes.ensures.exact c.in_ok-durations.ensures.exact c.in_ok-offsets.ensures.exact c.in_ok-chunks.ensures.exact c.in_ok-chunk_rows.ensures.exact c.in_ok-check_places.ensures.exact c.in_err-sync.ensures.exact;
    })

pub returns-in_err-dependencies-clause-exact : goal.returns-in_err-dependencies-clause-exact
returns-in_err-dependencies-clause-exact g c =
    let p = err_from_is_err_and c.from_residual-in_err-dependencies.result c.from_residual-in_err-dependencies.ensures.1 in
    rw (p.1, p.2)
    (record {
      names =
          at_dependencies c.args.limits (box_seen c.args.stbl)
          c.in_err-dependencies.field-0.0 c.in_ok-sizes.ensures.exact c.in_ok-durations.ensures.exact c.in_ok-offsets.ensures.exact c.in_ok-chunks.ensures.exact c.in_ok-chunk_rows.ensures.exact c.in_ok-check_places.ensures.exact c.in_ok-sync.ensures.exact c.in_err-dependencies.ensures.exact;
    })

pub returns-in_err-groups-clause-exact : goal.returns-in_err-groups-clause-exact
returns-in_err-groups-clause-exact g c =
    let p = err_from_is_err_and c.from_residual-in_err-groups.result c.from_residual-in_err-groups.ensures.1 in
    let behind = at_groups c.args.limits (box_seen c.args.stbl) c.in_err-groups.field-0.0 c.in_ok-sizes.ensures.exact c.in_ok-durations.ensures.exact c.in_ok-offsets.ensures.exact c.in_ok-chunks.ensures.exact in
    rw (p.1, p.2) (record { names = behind c.in_ok-chunk_rows.ensures.exact c.in_ok-check_places.ensures.exact c.in_ok-sync.ensures.exact c.in_ok-dependencies.ensures.exact c.in_err-groups.ensures.exact })

pub returns-clause-exact : goal.returns-clause-exact
returns-clause-exact g c =
    record {
      names =
          none_at_all c.args.limits (box_seen c.args.stbl)
          c.in_ok-sizes.ensures.exact c.in_ok-durations.ensures.exact c.in_ok-offsets.ensures.exact c.in_ok-chunks.ensures.exact c.in_ok-chunk_rows.ensures.exact c.in_ok-check_places.ensures.exact c.in_ok-sync.ensures.exact c.in_ok-dependencies.ensures.exact c.in_ok-groups.ensures.exact;
    }
