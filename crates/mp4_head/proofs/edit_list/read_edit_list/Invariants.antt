use Rattle.std.proofs.Common.{◌-◌}
use Rattle.mp4_boxes.specs.format.Layout.{version}
use Rattle.mp4_head.specs.format.Tree.{edits_of}
use Rattle.std.specs.Prelude.{Some}
use Rattle.mp4_head.proofs.EditRows.{RowsRead}
use Rattle.mp4_head.proofs.edit_list.read_edit_list.Given as goal

abbrev pub invariant-loop-row : goal.invariant-loop-row
invariant-loop-row l = RowsRead (edits_of (Some l.fn.view.payload.now)) (version l.fn.view.payload.now) l.width (l.count - l._row) l.edits.items l.rest
