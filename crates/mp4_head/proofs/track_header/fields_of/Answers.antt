use Rattle.std.proofs.Common.{◌∙◌, ◌-◌, length, drop, ap, refl, lit<, arith, rules}
use Rattle.byteorder.specs.Endian.{twos_complement}
use Rattle.byteorder.specs.Numbers.{big_from-take}
use Rattle.std.specs.Int.{w16}
use Rattle.std.proofs.lemmas.Int.{to_z-of_z}
use Rattle.mp4_head.proofs.Headers.{track_at, track_matrix}
use Rattle.mp4_head.proofs.track_header.fields_of.Goals as goal

pub returns : goal.returns
returns c =
    let p = c.args.payload.now in
    let w = c.requires.times in
    record {
      flags = c.read_u24.ensures ∙ big_from-take 0 3 (length p - 1) (drop 1 p) (omega arith);
      creation = c.time_at.ensures ∙ track_at p 2 _ _ (lit< tt) w refl;
      modification = c.time_at-2.ensures ∙ track_at p 3 _ _ (lit< tt) w (omega arith);
      id = c.u32_at.ensures ∙ track_at p 4 _ _ (lit< tt) refl (omega arith);
      layer = to_z-of_z w16 c.i16_at.result (search rules) ∙ c.i16_at.ensures ∙ ap (twos_complement 2) (track_at p 9 _ _ (lit< tt) refl (omega arith));
      alternate_group = to_z-of_z w16 c.i16_at-2.result (search rules) ∙ c.i16_at-2.ensures ∙ ap (twos_complement 2) (track_at p 10 _ _ (lit< tt) refl (omega arith));
      volume = to_z-of_z w16 c.i16_at-3.result (search rules) ∙ c.i16_at-3.ensures ∙ ap (twos_complement 2) (track_at p 11 _ _ (lit< tt) refl (omega arith));
      matrix = c.matrix_at-matrix.ensures ∙ track_matrix p _ w;
      width = c.u32_at-2.ensures ∙ track_at p 22 _ _ (lit< tt) refl (omega arith);
      height = c.u32_at-3.ensures ∙ track_at p 23 _ _ (lit< tt) refl (omega arith);
    }
