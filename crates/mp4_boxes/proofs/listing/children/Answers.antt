use Rattle.std.proofs.Common.{rules, ◌+◌, drop, false, Ok, Err, refl}
use Rattle.std.proofs.lemmas.List.{length-drop}
use Rattle.mp4_boxes.specs.format.FirstFault.{no_tests}
use Rattle.mp4_boxes.proofs.FirstFaults.{goes_none, goes_more, stops_header, ends, there_behind}
use Rattle.std.proofs.lemmas.List.{take_rest}
use Rattle.std.proofs.lemmas.Result.{err_from_is_err_and}
use Rattle.mp4_boxes.specs.format.Box.{bytes_container}
use Rattle.mp4_boxes.specs.words.View.{header_seen}
use Rattle.mp4_boxes.proofs.Tiling.{tiles_one, header_fault_refuses, header_is}
use Rattle.mp4_boxes.proofs.Walking.{passed_none, passed_more, passed_few, passed_has, passed_tiles, passed_fault, read_behind}
use Rattle.mp4_boxes.proofs.listing.children.Goals as goal

pub overflow_add-count : goal.overflow_add-count
overflow_add-count c =
    let few = passed_few c.args.base c.args.bytes.now c.loop-at.count c.loop-at.at c.loop-at.invariant.0 in
    let some = c.loop-at-test.true in
    let fits = c.requires in
    search rules

pub loop-at-preserved : goal.loop-at-preserved
loop-at-preserved c =
    let e = there_behind c.args.bytes.now c.loop-at.at c.args.container.0 c.args.container.0 (c.args.base + c.loop-at.at) (Ok (header_seen c.in_ok-header.header)) refl c.in_ok-header.ensures in (
      passed_more c.args.base c.args.bytes.now c.loop-at.count c.loop-at.at (header_seen c.in_ok-header.header) c.loop-at.invariant.0
          (read_behind c.args.bytes.now c.loop-at.at c.args.container.0 (c.args.base + c.loop-at.at) (header_seen c.in_ok-header.header) c.in_ok-header.ensures),
      goes_more no_tests c.args.container.0 c.args.base c.args.base c.args.bytes.now c.loop-at.count c.loop-at.at (header_seen c.in_ok-header.header) c.loop-at.invariant.0 (search rules) e refl c.loop-at.invariant.1,
    )

pub returns-in_err-header-clause-only : goal.returns-in_err-header-clause-only
returns-in_err-header-clause-only c boxes t =
    let read = rw (take_rest c.args.bytes.now c.loop-at.at) at c.in_err-header.ensures in
    let h = passed_fault c.args.container.0 c.args.base c.args.base c.args.bytes.now c.loop-at.count c.loop-at.at c.in_err-header.field-0.0 c.loop-at.invariant.0 (search rules) read in
    absurd (header_fault_refuses (bytes_container c.args.container.0 c.args.base c.args.bytes.now) c.in_err-header.field-0.0 boxes h t)

pub returns-in_err-header-clause-fault : goal.returns-in_err-header-clause-fault
returns-in_err-header-clause-fault c =
    let p = err_from_is_err_and c.from_residual.result c.from_residual.ensures.1 in
    let read = rw (take_rest c.args.bytes.now c.loop-at.at) at c.in_err-header.ensures in
    rw (p.1, p.2) (passed_fault c.args.container.0 c.args.base c.args.base c.args.bytes.now c.loop-at.count c.loop-at.at c.in_err-header.field-0.0 c.loop-at.invariant.0 (search rules) read)

pub invariant_of-result : goal.invariant_of-result
invariant_of-result c = (passed_has c.args.base c.args.bytes.now c.loop-at.count c.loop-at.at c.loop-at.invariant.0, c.requires)

pub returns-clause-tiles : goal.returns-clause-tiles
returns-clause-tiles c = passed_tiles c.args.container.0 c.args.base c.args.base c.args.bytes.now c.loop-at.count c.loop-at.at c.loop-at.invariant.0 (search rules)

pub returns-clause-only : goal.returns-clause-only
returns-clause-only c boxes t =
    tiles_one (bytes_container c.args.container.0 c.args.base c.args.bytes.now) _ boxes
    (passed_tiles c.args.container.0 c.args.base c.args.base c.args.bytes.now c.loop-at.count c.loop-at.at c.loop-at.invariant.0 (search rules)) t

pub loop-at-init : goal.loop-at-init
loop-at-init c = (passed_none _ _, goes_none no_tests c.args.container.0 c.args.base c.args.base c.args.bytes.now)

pub overflow_add-at : goal.overflow_add-at
overflow_add-at c =
    let fits = (header_is false (drop c.loop-at.at c.args.bytes.now) (header_seen c.in_ok-header.header) (read_behind c.args.bytes.now c.loop-at.at c.args.container.0 (c.args.base + c.loop-at.at) (header_seen c.in_ok-header.header) c.in_ok-header.ensures)).fits in
    let left = length-drop c.loop-at.at c.args.bytes.now in
    search rules

pub loop-at-smaller : goal.loop-at-smaller
loop-at-smaller c =
    let r = header_is false (drop c.loop-at.at c.args.bytes.now) (header_seen c.in_ok-header.header) (read_behind c.args.bytes.now c.loop-at.at c.args.container.0 (c.args.base + c.loop-at.at) (header_seen c.in_ok-header.header) c.in_ok-header.ensures) in
    let fits = r.fits in
    let inside = r.inside in
    let long = r.length in
    let left = length-drop c.loop-at.at c.args.bytes.now in
    let some = c.loop-at-test.true in
    search rules

pub returns-in_err-header-clause-exact : goal.returns-in_err-header-clause-exact
returns-in_err-header-clause-exact c =
    let p = err_from_is_err_and c.from_residual.result c.from_residual.ensures.1 in
    let e = there_behind c.args.bytes.now c.loop-at.at c.args.container.0 c.args.container.0 (c.args.base + c.loop-at.at) (Err c.in_err-header.field-0.0) refl c.in_err-header.ensures in
    rw (p.1, p.2) (record { same = stops_header no_tests c.args.container.0 c.args.base c.args.base c.args.bytes.now c.loop-at.count c.loop-at.at c.in_err-header.field-0.0 c.loop-at.invariant.0 (search rules) e c.loop-at.invariant.1 })

pub returns-clause-exact : goal.returns-clause-exact
returns-clause-exact c = record { same = ends no_tests c.args.container.0 c.args.base c.args.base c.args.bytes.now c.loop-at.count c.loop-at.at c.loop-at.invariant.0 (search rules) c.loop-at.invariant.1 }
