use Rattle.std.proofs.Common.{rules, ℕ, ◌∙◌, ◌++◌, List, [], ◌∷◌, ap}
use Rattle.std.specs.Prelude.{codes, replicate}
use Rattle.byteorder.specs.Endian.{big_bytes}
use Rattle.std.specs.Int.{w16}
use Rattle.std.proofs.lemmas.Int.{to_z-of_z}
use Rattle.mp4_boxes.specs.format.Bytes.{unsigned}
use Rattle.mp4_head.specs.words.Seen.{track_seen}
use Rattle.mp4_head.specs.words.Parts.{matrix_bytes}
use Rattle.mp4_head.proofs.Pieces.{appended_is}
use Rattle.mp4_head.proofs.HeadPieces.{track_spelled}
use Rattle.mp4_head.proofs.track_writing.put_track_header.Goals as goal

pub returns : goal.returns
returns c =
    let layer = to_z-of_z w16 c.args.track.now.layer (search rules) in
    let alternate_group = to_z-of_z w16 c.args.track.now.alternate_group (search rules) in
    let volume = to_z-of_z w16 c.args.track.now.volume (search rules) in
    rw (
      c.in_ok-put_u32-3.ensures,
      c.in_ok-put_u32-2.ensures,
      c.in_ok-put_matrix.ensures,
      c.in_ok-put-4.ensures,
      c.in_ok-put_i16-3.ensures,
      c.in_ok-put_i16-2.ensures,
      c.in_ok-put_i16.ensures,
      c.in_ok-put-3.ensures,
      c.in_ok-put_u32.ensures,
      c.in_ok-put_u64-2.ensures,
      c.in_ok-put_u64.ensures,
      c.in_ok-put-2.ensures,
      c.in_ok-put.ensures,
      layer,
      alternate_group,
      volume,
      c.to_be_bytes-flags.ensures,
    ) (appended_is c.args.out.now.items ((0 ∷ 0 ∷ 0 ∷ 104 ∷ (codes "tkhd" ++ 1 ∷ [])) ∷ (big_bytes 3 c.args.track.now.flags) ∷ (big_bytes 8 c.args.track.now.creation) ∷ (big_bytes 8 c.args.track.now.modification) ∷ (big_bytes 4 c.args.track.now.id) ∷ (replicate 20 0)
    ∷ (big_bytes 2 (unsigned 2 c.args.track.now.layer)) ∷ (big_bytes 2 (unsigned 2 c.args.track.now.alternate_group)) ∷ (big_bytes 2 (unsigned 2 c.args.track.now.volume)) ∷ (replicate 2 0) ∷ (matrix_bytes c.args.track.now.matrix) ∷ (big_bytes 4 c.args.track.now.width)
    ∷ (big_bytes 4 c.args.track.now.height) ∷ []) ∙ ap (λ (x : List ℕ). c.args.out.now.items ++ x) (track_spelled (track_seen c.args.track.now) (search rules)))
