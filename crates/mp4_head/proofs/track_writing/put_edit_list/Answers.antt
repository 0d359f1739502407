use Rattle.std.proofs.Common.{rules, ℕ, ◌∙◌, ◌++◌, List, [], ◌∷◌, length, map, ap, sym, refl}
use Rattle.std.proofs.lemmas.List.{length-map}
use Rattle.std.specs.Prelude.{codes}
use Rattle.std.specs.List.{flat_map}
use Rattle.byteorder.specs.Endian.{big_bytes}
use Rattle.mp4_boxes.specs.format.Written.{box_bytes}
use Rattle.mp4_head.specs.words.Seen.{edit_seen}
use Rattle.mp4_head.specs.format.Writing as written
use Rattle.mp4_head.proofs.Pieces.{appended, boxed, boxed_room}
use Rattle.mp4_head.proofs.track_writing.put_edit_list.Goals as goal

pub close_box-requires : goal.close_box-requires
close_box-requires c =
    boxed_room c.args.out.now.items (codes "elst") _ c.put_rows.new.out.items c.len-at.result (search rules) refl
    (
    boxed c.args.out.now.items (codes "elst") (1 ∷ 0 ∷ 0 ∷ 0 ∷ []) ((big_bytes 4 (length c.args.edits.now)) ∷ (flat_map written.edit_bytes (map edit_seen c.args.edits.now)) ∷ []) c.put_rows.new.out.items
    (rw (c.in_ok-put_rows.ensures, c.in_ok-put_length.ensures, c.in_ok-put.ensures, c.in_ok-open_box.ensures) refl))

pub returns : goal.returns
returns c =
    c.close_box.ensures c.args.out.now.items (codes "elst") (appended (1 ∷ 0 ∷ 0 ∷ 0 ∷ []) ((big_bytes 4 (length c.args.edits.now)) ∷ (flat_map written.edit_bytes (map edit_seen c.args.edits.now)) ∷ [])) (search rules) refl
    (
    boxed c.args.out.now.items (codes "elst") (1 ∷ 0 ∷ 0 ∷ 0 ∷ []) ((big_bytes 4 (length c.args.edits.now)) ∷ (flat_map written.edit_bytes (map edit_seen c.args.edits.now)) ∷ []) c.put_rows.new.out.items
    (rw (c.in_ok-put_rows.ensures, c.in_ok-put_length.ensures, c.in_ok-put.ensures, c.in_ok-open_box.ensures) refl))
    ∙ ap (λ (x : List ℕ). c.args.out.now.items ++ box_bytes (codes "elst") x) (ap (λ (n : ℕ). appended (1 ∷ 0 ∷ 0 ∷ 0 ∷ []) (big_bytes 4 n ∷ flat_map written.edit_bytes (map edit_seen c.args.edits.now) ∷ [])) (sym (length-map c.args.edits.now edit_seen)))
