use Rattle.std.proofs.Common.{◌++◌, [], ◌∷◌}
use Rattle.std.specs.Prelude.{codes, replicate}
use Rattle.byteorder.specs.Endian.{big_bytes}
use Rattle.mp4_head.proofs.Pieces.{appended_is}
use Rattle.mp4_head.proofs.track_writing.put_media_header.Goals as goal

pub returns : goal.returns
returns c =
    rw (
      c.in_ok-put-3.ensures,
      c.in_ok-put_u16.ensures,
      c.in_ok-put-2.ensures,
      c.in_ok-put_u32.ensures,
      c.in_ok-put_u64-2.ensures,
      c.in_ok-put_u64.ensures,
      c.in_ok-put.ensures,
    ) (appended_is c.args.out.now.items ((0 ∷ 0 ∷ 0 ∷ 44 ∷ (codes "mdhd" ++ 1 ∷ 0 ∷ 0 ∷ 0 ∷ [])) ∷ (big_bytes 8 c.args.media.now.creation) ∷ (big_bytes 8 c.args.media.now.modification) ∷ (big_bytes 4 c.args.media.now.timescale) ∷ (replicate 8 0)
    ∷ (big_bytes 2 c.args.media.now.language) ∷ (replicate 2 0) ∷ []))
