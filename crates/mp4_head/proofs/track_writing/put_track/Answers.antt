use Rattle.std.proofs.Common.{rules, [], ◌∷◌, map, refl}
use Rattle.std.specs.Prelude.{codes}
use Rattle.std.specs.List.{flat_map}
use Rattle.mp4_head.specs.words.Seen.{kept_seen, edit_seen, track_seen}
use Rattle.mp4_head.specs.format.Writing as written
use Rattle.mp4_head.proofs.Pieces.{appended, boxed, boxed_room}
use Rattle.mp4_head.proofs.track_writing.put_track.Goals as goal

pub close_box-requires : goal.close_box-requires
close_box-requires c =
    boxed_room c.args.out.now.items (codes "trak") _ c.put_media.new.out.items c.len-at.result (search rules) refl
    (
    boxed c.args.out.now.items (codes "trak") (written.tkhd_bytes (track_seen c.args.track.now)) ((written.edts_bytes (map edit_seen c.args.track.now.edits.items)) ∷ (flat_map written.kept_bytes (map kept_seen c.args.track.now.kept.items))
    ∷ (written.mdia_bytes (track_seen c.args.track.now).media (track_seen c.args.track.now).group_descriptions) ∷ []) c.put_media.new.out.items (rw (
      c.in_ok-put_media.ensures,
      c.in_ok-put_kept.ensures,
      c.in_ok-put_edits.ensures,
      c.in_ok-put_track_header.ensures,
      c.in_ok-open_box.ensures,
      c.deref.ensures.value,
      c.deref-2.ensures.value,
    ) refl))

pub returns : goal.returns
returns c =
    c.close_box.ensures c.args.out.now.items (codes "trak") (appended (written.tkhd_bytes (track_seen c.args.track.now)) ((written.edts_bytes (map edit_seen c.args.track.now.edits.items)) ∷ (flat_map written.kept_bytes (map kept_seen c.args.track.now.kept.items))
    ∷ (written.mdia_bytes (track_seen c.args.track.now).media (track_seen c.args.track.now).group_descriptions) ∷ [])) (search rules) refl
    (
    boxed c.args.out.now.items (codes "trak") (written.tkhd_bytes (track_seen c.args.track.now)) ((written.edts_bytes (map edit_seen c.args.track.now.edits.items)) ∷ (flat_map written.kept_bytes (map kept_seen c.args.track.now.kept.items))
    ∷ (written.mdia_bytes (track_seen c.args.track.now).media (track_seen c.args.track.now).group_descriptions) ∷ []) c.put_media.new.out.items (rw (
      c.in_ok-put_media.ensures,
      c.in_ok-put_kept.ensures,
      c.in_ok-put_edits.ensures,
      c.in_ok-put_track_header.ensures,
      c.in_ok-open_box.ensures,
      c.deref.ensures.value,
      c.deref-2.ensures.value,
    ) refl))
