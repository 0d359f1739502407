use Rattle.std.proofs.Common.{rules, ℕ, ◌∙◌, ◌++◌, List, [], ◌∷◌, length, map, ap, sym, refl}
use Rattle.std.proofs.lemmas.List.{length-map}
use Rattle.std.specs.Prelude.{codes}
use Rattle.std.specs.List.{flat_map}
use Rattle.byteorder.specs.Endian.{big_bytes}
use Rattle.mp4_boxes.specs.format.Written.{box_bytes}
use Rattle.mp4_head.specs.words.Seen.{kept_seen}
use Rattle.mp4_head.specs.format.Writing as written
use Rattle.mp4_head.proofs.Pieces.{appended, boxed, boxed_room}
use Rattle.mp4_head.proofs.track_writing.put_descriptions.Goals as goal

pub close_box-requires : goal.close_box-requires
close_box-requires c =
    boxed_room c.args.out.now.items (codes "stsd") _ c.put_kept.new.out.items c.len-at.result (search rules) refl
    (
    boxed c.args.out.now.items (codes "stsd") (0 ∷ 0 ∷ 0 ∷ 0 ∷ []) ((big_bytes 4 (length c.args.descriptions.now)) ∷ (flat_map written.kept_bytes (map kept_seen c.args.descriptions.now)) ∷ []) c.put_kept.new.out.items
    (rw (c.in_ok-put_kept.ensures, c.in_ok-put_length.ensures, c.in_ok-put.ensures, c.in_ok-open_box.ensures) refl))

pub returns : goal.returns
returns c =
    c.close_box.ensures c.args.out.now.items (codes "stsd") (appended (0 ∷ 0 ∷ 0 ∷ 0 ∷ []) ((big_bytes 4 (length c.args.descriptions.now)) ∷ (flat_map written.kept_bytes (map kept_seen c.args.descriptions.now)) ∷ [])) (search rules) refl
    (
    boxed c.args.out.now.items (codes "stsd") (0 ∷ 0 ∷ 0 ∷ 0 ∷ []) ((big_bytes 4 (length c.args.descriptions.now)) ∷ (flat_map written.kept_bytes (map kept_seen c.args.descriptions.now)) ∷ []) c.put_kept.new.out.items
    (rw (c.in_ok-put_kept.ensures, c.in_ok-put_length.ensures, c.in_ok-put.ensures, c.in_ok-open_box.ensures) refl))
    ∙ ap (λ (x : List ℕ). c.args.out.now.items ++ box_bytes (codes "stsd") x) (ap (λ (n : ℕ). appended (0 ∷ 0 ∷ 0 ∷ 0 ∷ []) (big_bytes 4 n ∷ flat_map written.kept_bytes (map kept_seen c.args.descriptions.now) ∷ [])) (sym (length-map c.args.descriptions.now kept_seen)))
