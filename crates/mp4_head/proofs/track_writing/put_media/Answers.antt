use Rattle.std.proofs.Common.{rules, [], ◌∷◌, map, refl}
use Rattle.std.specs.Prelude.{codes}
use Rattle.std.specs.List.{flat_map}
use Rattle.mp4_boxes.specs.format.Written.{box_bytes}
use Rattle.mp4_head.specs.words.Seen.{media_seen, track_seen}
use Rattle.mp4_head.specs.words.Parts.{information_bytes}
use Rattle.mp4_head.specs.format.Writing as written
use Rattle.mp4_head.proofs.Pieces.{appended, boxed, boxed_room}
use Rattle.mp4_head.proofs.track_writing.put_media.Goals as goal

pub close_box-requires : goal.close_box-requires
close_box-requires c =
    boxed_room c.args.out.now.items (codes "mdia") _ c.put_information.new.out.items c.len-at.result (search rules) refl
    (
    boxed c.args.out.now.items (codes "mdia") (written.mdhd_bytes (media_seen c.args.track.now.media)) ((box_bytes (codes "hdlr") c.args.track.now.media.handler.now) ∷ (flat_map (box_bytes (codes "elng")) (map (λ p. p.now) c.args.track.now.media.extended_languages.items))
    ∷ (information_bytes (track_seen c.args.track.now)) ∷ []) c.put_information.new.out.items (rw (c.in_ok-put_information.ensures, c.in_ok-put_boxes.ensures, c.in_ok-put_box.ensures, c.in_ok-put_media_header.ensures, c.in_ok-open_box.ensures, c.deref.ensures.value) refl))

pub returns : goal.returns
returns c =
    c.close_box.ensures c.args.out.now.items (codes "mdia") (appended (written.mdhd_bytes (media_seen c.args.track.now.media)) ((box_bytes (codes "hdlr") c.args.track.now.media.handler.now) ∷ (flat_map (box_bytes (codes "elng")) (map (λ p. p.now) c.args.track.now.media.extended_languages.items))
    ∷ (information_bytes (track_seen c.args.track.now)) ∷ [])) (search rules) refl
    (
    boxed c.args.out.now.items (codes "mdia") (written.mdhd_bytes (media_seen c.args.track.now.media)) ((box_bytes (codes "hdlr") c.args.track.now.media.handler.now) ∷ (flat_map (box_bytes (codes "elng")) (map (λ p. p.now) c.args.track.now.media.extended_languages.items))
    ∷ (information_bytes (track_seen c.args.track.now)) ∷ []) c.put_information.new.out.items (rw (c.in_ok-put_information.ensures, c.in_ok-put_boxes.ensures, c.in_ok-put_box.ensures, c.in_ok-put_media_header.ensures, c.in_ok-open_box.ensures, c.deref.ensures.value) refl))
