use Rattle.std.proofs.Common.{rules, [], ◌∷◌}
use Rattle.byteorder.specs.Endian.{big_bytes}
use Rattle.std.specs.Int.{w16, w64}
use Rattle.std.proofs.lemmas.Int.{to_z-of_z}
use Rattle.mp4_boxes.specs.format.Bytes.{unsigned}
use Rattle.mp4_head.proofs.Pieces.{appended_is}
use Rattle.mp4_head.proofs.track_writing.put_edit.Goals as goal

pub returns : goal.returns
returns c =
    let media_time = to_z-of_z w64 c.args.edit.now.media_time (search rules) in
    let rate_integer = to_z-of_z w16 c.args.edit.now.rate_integer (search rules) in
    let rate_fraction = to_z-of_z w16 c.args.edit.now.rate_fraction (search rules) in
    rw (
      c.in_ok-put_i16-2.ensures,
      c.in_ok-put_i16.ensures,
      c.in_ok-put_i64.ensures,
      c.in_ok-put_u64.ensures,
      media_time,
      rate_integer,
      rate_fraction,
    ) (appended_is c.args.out.now.items ((big_bytes 8 c.args.edit.now.segment_duration) ∷ (big_bytes 8 (unsigned 8 c.args.edit.now.media_time)) ∷ (big_bytes 2 (unsigned 2 c.args.edit.now.rate_integer)) ∷ (big_bytes 2 (unsigned 2 c.args.edit.now.rate_fraction)) ∷ []))
