use Rattle.std.proofs.Common.{rules, Ok, ◌+◌, ◌<◌, length, drop, ap, ◌∙◌, arith}
use Rattle.std.proofs.lemmas.Result.{err_from_is_err_and}
use Rattle.std.proofs.lemmas.List.{length-drop}
use Rattle.mp4_boxes.specs.format.Box.{counted_container}
use Rattle.mp4_boxes.specs.words.View.{box_seen, header_seen}
use Rattle.mp4_boxes.proofs.Tiling.{tiles_one, header_fault_refuses}
use Rattle.mp4_boxes.proofs.Walking.{passed_none, passed_more, passed_has, passed_within, read_behind, fault_behind}
use Rattle.mp4_boxes.proofs.Admitting.{counted_tiles, counted_fault}
use Rattle.mp4_boxes.proofs.FirstFaults.{there_behind}
use Rattle.mp4_boxes.proofs.CountedFaults.{counts_none, counts_more, counted_stops, counted_ends}
use Rattle.mp4_boxes.proofs.listing.counted.Goals as goal

pub loop-count-init : goal.loop-count-init
loop-count-init c = (passed_none _ _, omega arith, omega arith, counts_none (box_seen c.args.view).kind (box_seen c.args.view).offset (c.payload_offset-base.result + 8) c.split_at.result.1.now c.u32_at-due.result)

pub overflow_add-place : goal.overflow_add-place
overflow_add-place c =
    let w = c.loop-count.invariant.2 in
    let f = c.args.view.fits in
    let n = ap length c.split_at.ensures.back ∙ length-drop 8 c.payload-payload.result.now in
    let m = ap length c.payload-payload.ensures in
    let b = c.payload_offset-base.ensures in
    search rules

pub loop-count-preserved : goal.loop-count-preserved
loop-count-preserved c =
    let i = c.loop-count.invariant in
    let lt : c.loop-count.count < c.u32_at-due.result = search rules in
    let read = read_behind c.split_at.result.1.now c.loop-count.at c.kind.result.0 (c.payload_offset-base.result + 8 + c.loop-count.at) (header_seen c.in_ok-header.header) c.in_ok-header.ensures in
    let p = passed_more (c.payload_offset-base.result + 8) c.split_at.result.1.now c.loop-count.count c.loop-count.at (header_seen c.in_ok-header.header) i.0 read in
    let e = there_behind c.split_at.result.1.now c.loop-count.at c.kind.result.0 (box_seen c.args.view).kind (c.payload_offset-base.result + 8 + c.loop-count.at) (Ok (header_seen c.in_ok-header.header)) c.kind.ensures c.in_ok-header.ensures in
    (p, omega arith, passed_within _ _ _ _ p, counts_more _ _ _ _ _ _ c.loop-count.at (header_seen c.in_ok-header.header) i.0 lt e i.3)

pub returns-in_err-header-clause-only : goal.returns-in_err-header-clause-only
returns-in_err-header-clause-only c boxes t =
    let e = fault_behind c.split_at.result.1.now c.loop-count.at c.kind.result.0 _ (c.payload_offset-base.result + 8 + c.loop-count.at) c.in_err-header.field-0.0 c.kind.ensures c.in_err-header.ensures in
    let h = counted_fault (box_seen c.args.view) (c.payload_offset-base.result + 8) c.split_at.result.1.now c.u32_at-due.result c.loop-count.count c.loop-count.at c.in_err-header.field-0.0
    (ap (λ n. n + 8) c.payload_offset-base.ensures) (c.split_at.ensures.back ∙ ap (drop 8) c.payload-payload.ensures) (search rules) c.loop-count.invariant.0 (search rules) e in
    absurd (header_fault_refuses (counted_container (box_seen c.args.view)) c.in_err-header.field-0.0 boxes h t)

pub returns-in_err-header-clause-fault : goal.returns-in_err-header-clause-fault
returns-in_err-header-clause-fault c =
    let p = err_from_is_err_and c.from_residual.result c.from_residual.ensures.1 in
    let e = fault_behind c.split_at.result.1.now c.loop-count.at c.kind.result.0 _ (c.payload_offset-base.result + 8 + c.loop-count.at) c.in_err-header.field-0.0 c.kind.ensures c.in_err-header.ensures in
    rw (p.1, p.2) (counted_fault (box_seen c.args.view) (c.payload_offset-base.result + 8) c.split_at.result.1.now c.u32_at-due.result c.loop-count.count c.loop-count.at c.in_err-header.field-0.0
    (ap (λ n. n + 8) c.payload_offset-base.ensures) (c.split_at.ensures.back ∙ ap (drop 8) c.payload-payload.ensures) (search rules) c.loop-count.invariant.0 (search rules) e)

pub invariant_of-result : goal.invariant_of-result
invariant_of-result c =
    let f = c.args.view.fits in
    let n = ap length c.split_at.ensures.back ∙ length-drop 8 c.payload-payload.result.now in
    let m = ap length c.payload-payload.ensures in
    let b = c.payload_offset-base.ensures in
    let r = c.requires in
    (passed_has _ _ _ _ c.loop-count.invariant.0, omega arith)

pub returns-clause-tiles : goal.returns-clause-tiles
returns-clause-tiles c =
    counted_tiles (box_seen c.args.view) (c.payload_offset-base.result + 8) c.split_at.result.1.now c.u32_at-due.result c.loop-count.count c.loop-count.at
    (ap (λ n. n + 8) c.payload_offset-base.ensures) (c.split_at.ensures.back ∙ ap (drop 8) c.payload-payload.ensures) (search rules) c.loop-count.invariant.0 (search rules)

pub returns-clause-only : goal.returns-clause-only
returns-clause-only c boxes t =
    tiles_one (counted_container (box_seen c.args.view)) _ boxes
    (counted_tiles (box_seen c.args.view) (c.payload_offset-base.result + 8) c.split_at.result.1.now c.u32_at-due.result c.loop-count.count c.loop-count.at
    (ap (λ n. n + 8) c.payload_offset-base.ensures) (c.split_at.ensures.back ∙ ap (drop 8) c.payload-payload.ensures) (search rules) c.loop-count.invariant.0 (search rules)) t

pub returns-in_err-header-clause-exact : goal.returns-in_err-header-clause-exact
returns-in_err-header-clause-exact c =
    let p = err_from_is_err_and c.from_residual.result c.from_residual.ensures.1 in
    let e = fault_behind c.split_at.result.1.now c.loop-count.at c.kind.result.0 _ (c.payload_offset-base.result + 8 + c.loop-count.at) c.in_err-header.field-0.0 c.kind.ensures c.in_err-header.ensures in
    rw (p.1, p.2) (record {
      same = counted_stops (box_seen c.args.view) (c.payload_offset-base.result + 8) c.split_at.result.1.now c.u32_at-due.result c.loop-count.count c.loop-count.at c.in_err-header.field-0.0
          (ap (λ n. n + 8) c.payload_offset-base.ensures) (c.split_at.ensures.back ∙ ap (drop 8) c.payload-payload.ensures) (search rules) c.loop-count.invariant.0 (search rules) e c.loop-count.invariant.3;
    })

pub returns-clause-exact : goal.returns-clause-exact
returns-clause-exact c = record {
  same = counted_ends (box_seen c.args.view) (c.payload_offset-base.result + 8) c.split_at.result.1.now c.u32_at-due.result c.loop-count.count c.loop-count.at
      (ap (λ n. n + 8) c.payload_offset-base.ensures) (c.split_at.ensures.back ∙ ap (drop 8) c.payload-payload.ensures) (search rules) c.loop-count.invariant.0 (search rules) c.loop-count.invariant.3;
}
