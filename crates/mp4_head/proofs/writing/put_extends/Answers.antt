use Rattle.std.proofs.Common.{rules, ◌++◌, [], ◌∷◌, map, refl}
use Rattle.std.specs.Prelude.{codes}
use Rattle.std.specs.List.{flat_map}
use Rattle.byteorder.specs.Endian.{big_bytes}
use Rattle.mp4_head.specs.words.Seen.{track_seen}
use Rattle.mp4_head.specs.format.Writing as written
use Rattle.mp4_head.proofs.Pieces.{appended, boxed, boxed_room}
use Rattle.mp4_head.proofs.writing.put_extends.Goals as goal

pub close_box-requires : goal.close_box-requires
close_box-requires c =
    boxed_room c.args.out.now.items (codes "mvex") _ c.put_tracks_extends.new.out.items c.len-at.result (search rules) refl
    (
    boxed c.args.out.now.items (codes "mvex") (0 ∷ 0 ∷ 0 ∷ 20 ∷ (codes "mehd" ++ 1 ∷ 0 ∷ 0 ∷ 0 ∷ [])) ((big_bytes 8 c.args.mehd) ∷ (flat_map written.trex_bytes (map track_seen c.args.tracks.now)) ∷ []) c.put_tracks_extends.new.out.items
    (rw (c.in_ok-put_tracks_extends.ensures, c.in_ok-put_u64.ensures, c.in_ok-put.ensures, c.in_ok-open_box.ensures) refl))

pub returns : goal.returns
returns c =
    c.close_box.ensures c.args.out.now.items (codes "mvex") (appended (0 ∷ 0 ∷ 0 ∷ 20 ∷ (codes "mehd" ++ 1 ∷ 0 ∷ 0 ∷ 0 ∷ [])) ((big_bytes 8 c.args.mehd) ∷ (flat_map written.trex_bytes (map track_seen c.args.tracks.now)) ∷ [])) (search rules) refl
    (
    boxed c.args.out.now.items (codes "mvex") (0 ∷ 0 ∷ 0 ∷ 20 ∷ (codes "mehd" ++ 1 ∷ 0 ∷ 0 ∷ 0 ∷ [])) ((big_bytes 8 c.args.mehd) ∷ (flat_map written.trex_bytes (map track_seen c.args.tracks.now)) ∷ []) c.put_tracks_extends.new.out.items
    (rw (c.in_ok-put_tracks_extends.ensures, c.in_ok-put_u64.ensures, c.in_ok-put.ensures, c.in_ok-open_box.ensures) refl))
