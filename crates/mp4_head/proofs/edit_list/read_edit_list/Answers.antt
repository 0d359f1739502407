use Rattle.std.proofs.Common.{◌≡◌, ◌+◌, ◌*◌, ◌-◌, length, drop, arith, ap, ◌∙◌}
use Rattle.std.proofs.lemmas.List.{length-drop}
use Rattle.mp4_boxes.specs.format.Layout.{version}
use Rattle.mp4_head.proofs.EditRows.{rows_none, row_room, rows_more, rows_all}
use Rattle.mp4_head.proofs.edit_list.read_edit_list.Goals as goal

pub loop-row-init : goal.loop-row-init
loop-row-init c =
    let rest = c.split_at.ensures.back ∙ ap (drop 8) c.payload.ensures in
    let r = c.in_ok-count.ensures.room in
    let n = ap length rest in
    let shorter = length-drop 8 c.args.view.payload.now in
    let p = c.args.view.payload.now in
    let first = rows_none (version p) c.in_ok-count.width c.in_ok-count.count c.in_ok-edits.edits.items c.split_at.result.1.now c.in_ok-edits.ensures.items (omega arith) in
    let less : c.in_ok-count.count ≡ c.in_ok-count.count - 0 = omega arith in
    rw (← less, rest, c.in_ok-count.ensures.count) (rw (rest, c.in_ok-count.ensures.count) at first)

pub first_edit-requires-clause-room : goal.first_edit-requires-clause-room
first_edit-requires-clause-room c =
    let t = c.loop-row-test.true in
    row_room (c.in_ok-count.count - c.loop-row._row) (2 * c.in_ok-count.width + 4) _ (omega arith) c.loop-row.invariant.room

pub split_at-requires-in-loop-row : goal.split_at-requires-in-loop-row
split_at-requires-in-loop-row c =
    let t = c.loop-row-test.true in
    row_room (c.in_ok-count.count - c.loop-row._row) (2 * c.in_ok-count.width + 4) _ (omega arith) c.loop-row.invariant.room

pub loop-row-preserved : goal.loop-row-preserved
loop-row-preserved c =
    let t = c.loop-row-test.true in
    let w = c.in_ok-count.ensures.open.width_is in
    rows_more _ (version c.args.view.payload.now) c.in_ok-count.width (c.in_ok-count.count - c.loop-row._row) (c.in_ok-count.count - (c.loop-row._row + 1)) c.loop-row.edits.items c.push.new.self.items c.first_edit.result c.loop-row.rest.now
    c.split_at-in-loop-row.result.1.now c.loop-row.invariant (omega arith) w (c.first_edit.ensures (version c.args.view.payload.now) w) c.in_ok-push.ensures.items c.split_at-in-loop-row.ensures.back

pub returns-clause-edits : goal.returns-clause-edits
returns-clause-edits c =
    let t = c.loop-row-test.false in
    rows_all _ (version c.args.view.payload.now) c.in_ok-count.width (c.in_ok-count.count - c.loop-row._row) c.loop-row.edits.items c.loop-row.rest.now c.loop-row.invariant (omega arith)
