use Rattle.std.proofs.Common.{rules, ◌∙◌, ◌++◌, ap}
use Rattle.mp4_head.specs.words.Seen.{edit_seen}
use Rattle.mp4_head.specs.format.Writing as written
use Rattle.mp4_head.proofs.Pieces.{put_none, put_more, put_all, seen_each}
use Rattle.mp4_head.proofs.track_writing.put_rows.Goals as goal

pub loop-edit-init : goal.loop-edit-init
loop-edit-init c = put_none _ _ _

pub loop-edit-preserved : goal.loop-edit-preserved
loop-edit-preserved c =
    put_more (λ e. written.edit_bytes (edit_seen e)) _ c.args.edits.now c.loop-edit.edit-index _ c.loop-edit.out.items c.put_edit.new.out.items c.loop-edit-test.true c.in_ok-put_edit.ensures c.loop-edit.invariant

pub returns : goal.returns
returns c = put_all (λ e. written.edit_bytes (edit_seen e)) _ c.args.edits.now c.loop-edit.edit-index c.loop-edit.out.items (search rules) c.loop-edit.invariant ∙ ap (λ y. c.args.out.now.items ++ y) (seen_each written.edit_bytes edit_seen c.args.edits.now)
