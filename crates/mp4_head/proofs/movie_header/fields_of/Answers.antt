use Rattle.std.proofs.Common.{◌∙◌, ap, refl, lit<, arith, rules}
use Rattle.byteorder.specs.Endian.{twos_complement}
use Rattle.std.specs.Int.{w16, w32}
use Rattle.std.proofs.lemmas.Int.{to_z-of_z}
use Rattle.mp4_head.proofs.Headers.{movie_at, movie_matrix}
use Rattle.mp4_head.proofs.movie_header.fields_of.Goals as goal

pub returns : goal.returns
returns c =
    let p = c.args.payload.now in
    let w = c.requires.width in
    record {
      creation = c.time_at.ensures ∙ movie_at p 2 _ _ (lit< tt) w refl;
      modification = c.time_at-2.ensures ∙ movie_at p 3 _ _ (lit< tt) w (omega arith);
      timescale = c.u32_at.ensures ∙ movie_at p 4 _ _ (lit< tt) refl (omega arith);
      rate = to_z-of_z w32 c.i32_at.result (search rules) ∙ c.i32_at.ensures ∙ ap (twos_complement 4) (movie_at p 6 _ _ (lit< tt) refl (omega arith));
      volume = to_z-of_z w16 c.i16_at.result (search rules) ∙ c.i16_at.ensures ∙ ap (twos_complement 2) (movie_at p 7 _ _ (lit< tt) refl (omega arith));
      matrix = c.matrix_at-matrix.ensures ∙ movie_matrix p _ w;
    }
