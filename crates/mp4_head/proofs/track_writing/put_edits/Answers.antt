use Rattle.std.proofs.Common.{rules, ℕ, ◌∙◌, ◌++◌, List, [], map, ap, refl}
use Rattle.std.specs.Prelude.{codes}
use Rattle.mp4_head.specs.words.Seen.{edit_seen}
use Rattle.mp4_head.specs.words.Parts.{edit_list_bytes}
use Rattle.mp4_head.proofs.Pieces.{appended, boxed, boxed_room}
use Rattle.mp4_head.proofs.HeadPieces.{edits_spelled}
use Rattle.mp4_head.proofs.track_writing.put_edits.Goals as goal

pub close_box-requires : goal.close_box-requires
close_box-requires c =
    boxed_room c.args.out.now.items (codes "edts") _ c.put_edit_list.new.out.items c.len-at.result (search rules) refl
    (
    boxed c.args.out.now.items (codes "edts") (edit_list_bytes (map edit_seen c.args.edits.now)) ([]) c.put_edit_list.new.out.items (rw (c.in_ok-put_edit_list.ensures, c.in_ok-open_box.ensures) refl))

pub returns : goal.returns
returns c =
    c.close_box.ensures c.args.out.now.items (codes "edts") (appended (edit_list_bytes (map edit_seen c.args.edits.now)) ([])) (search rules) refl
    (
    boxed c.args.out.now.items (codes "edts") (edit_list_bytes (map edit_seen c.args.edits.now)) ([]) c.put_edit_list.new.out.items (rw (c.in_ok-put_edit_list.ensures, c.in_ok-open_box.ensures) refl))
    ∙ ap (λ (x : List ℕ). c.args.out.now.items ++ x) (edits_spelled c.args.edits.now (search rules))
