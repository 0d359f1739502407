use Rattle.std.proofs.Common.{rules, [], ◌∷◌, refl}
use Rattle.std.specs.Prelude.{codes}
use Rattle.mp4_head.specs.words.Seen.{track_seen}
use Rattle.mp4_head.specs.format.Writing as written
use Rattle.mp4_head.proofs.Pieces.{appended, boxed, boxed_room}
use Rattle.mp4_head.proofs.track_writing.put_information.Goals as goal

pub close_box-requires : goal.close_box-requires
close_box-requires c =
    boxed_room c.args.out.now.items (codes "minf") _ c.put_sample_table.new.out.items c.len-at.result (search rules) refl
    (
    boxed c.args.out.now.items (codes "minf") (written.kept_bytes (track_seen c.args.track.now).media.header) ((written.dinf_bytes) ∷ (written.stbl_bytes (track_seen c.args.track.now).media.descriptions (track_seen c.args.track.now).group_descriptions) ∷ []) c.put_sample_table.new.out.items
    (rw (c.in_ok-put_sample_table.ensures, c.in_ok-put.ensures, c.in_ok-put_box.ensures, c.in_ok-open_box.ensures, c.deref.ensures.value, c.deref-2.ensures.value) refl))

pub returns : goal.returns
returns c =
    c.close_box.ensures c.args.out.now.items (codes "minf") (appended (written.kept_bytes (track_seen c.args.track.now).media.header) ((written.dinf_bytes) ∷ (written.stbl_bytes (track_seen c.args.track.now).media.descriptions (track_seen c.args.track.now).group_descriptions) ∷ [])) (search rules)
    refl
    (
    boxed c.args.out.now.items (codes "minf") (written.kept_bytes (track_seen c.args.track.now).media.header) ((written.dinf_bytes) ∷ (written.stbl_bytes (track_seen c.args.track.now).media.descriptions (track_seen c.args.track.now).group_descriptions) ∷ []) c.put_sample_table.new.out.items
    (rw (c.in_ok-put_sample_table.ensures, c.in_ok-put.ensures, c.in_ok-put_box.ensures, c.in_ok-open_box.ensures, c.deref.ensures.value, c.deref-2.ensures.value) refl))
