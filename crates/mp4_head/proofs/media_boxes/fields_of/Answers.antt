use Rattle.std.proofs.Common.{◌∙◌, refl, lit<, arith}
use Rattle.mp4_head.proofs.Headers.{media_at}
use Rattle.mp4_head.proofs.media_boxes.fields_of.Goals as goal

pub returns : goal.returns
returns c =
    let p = c.args.payload.now in
    let w = c.requires.width in
    record {
      creation = c.time_at.ensures ∙ media_at p 2 _ _ (lit< tt) w refl;
      modification = c.time_at-2.ensures ∙ media_at p 3 _ _ (lit< tt) w (omega arith);
      timescale = c.u32_at.ensures ∙ media_at p 4 _ _ (lit< tt) refl (omega arith);
      language = c.u16_at.ensures ∙ media_at p 6 _ _ (lit< tt) refl (omega arith);
    }
