use Rattle.std.proofs.Common.{rules, [], ◌∷◌, map, refl}
use Rattle.std.specs.Prelude.{codes}
use Rattle.std.specs.List.{flat_map}
use Rattle.mp4_head.specs.words.Seen.{kept_seen, track_seen, movie_seen}
use Rattle.mp4_head.specs.format.Writing as written
use Rattle.mp4_head.proofs.Pieces.{appended, boxed, boxed_room}
use Rattle.mp4_head.proofs.writing.put_movie.Goals as goal

pub close_box-requires : goal.close_box-requires
close_box-requires c =
    boxed_room c.args.out.now.items (codes "moov") _ c.put_extends.new.out.items c.len-at.result (search rules) refl
    (
    boxed c.args.out.now.items (codes "moov") (written.mvhd_bytes (movie_seen c.args.head.now) (written.next_track_id (map track_seen c.args.head.now.tracks.items))) ((flat_map written.kept_bytes (map kept_seen c.args.head.now.kept.items))
    ∷ (flat_map written.trak_bytes (map track_seen c.args.head.now.tracks.items)) ∷ (written.mvex_bytes (map track_seen c.args.head.now.tracks.items) c.args.mehd) ∷ []) c.put_extends.new.out.items
    (rw (c.in_ok-put_extends.ensures, c.in_ok-put_tracks.ensures, c.in_ok-put_kept.ensures, c.in_ok-put_movie_header.ensures, c.in_ok-open_box.ensures, c.next_track_id.ensures, c.deref.ensures.value, c.deref-2.ensures.value, c.deref-3.ensures.value, c.deref-4.ensures.value) refl))

pub returns : goal.returns
returns c =
    c.close_box.ensures c.args.out.now.items (codes "moov") (appended (written.mvhd_bytes (movie_seen c.args.head.now) (written.next_track_id (map track_seen c.args.head.now.tracks.items))) ((flat_map written.kept_bytes (map kept_seen c.args.head.now.kept.items))
    ∷ (flat_map written.trak_bytes (map track_seen c.args.head.now.tracks.items)) ∷ (written.mvex_bytes (map track_seen c.args.head.now.tracks.items) c.args.mehd) ∷ [])) (search rules) refl
    (
    boxed c.args.out.now.items (codes "moov") (written.mvhd_bytes (movie_seen c.args.head.now) (written.next_track_id (map track_seen c.args.head.now.tracks.items))) ((flat_map written.kept_bytes (map kept_seen c.args.head.now.kept.items))
    ∷ (flat_map written.trak_bytes (map track_seen c.args.head.now.tracks.items)) ∷ (written.mvex_bytes (map track_seen c.args.head.now.tracks.items) c.args.mehd) ∷ []) c.put_extends.new.out.items
    (rw (c.in_ok-put_extends.ensures, c.in_ok-put_tracks.ensures, c.in_ok-put_kept.ensures, c.in_ok-put_movie_header.ensures, c.in_ok-open_box.ensures, c.next_track_id.ensures, c.deref.ensures.value, c.deref-2.ensures.value, c.deref-3.ensures.value, c.deref-4.ensures.value) refl))
