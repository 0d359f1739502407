use Rattle.std.proofs.Common.{◌≤◌, refl, arith}
use Rattle.mp4_frag.proofs.BoxPlaces.{box_read, none_read}
use Rattle.mp4_frag.proofs.box_places.box_at.Goals as goal

pub returns-in_default-clause-none : goal.returns-in_default-clause-none
returns-in_default-clause-none c e =
    let le : c.args.at ≤ c.args.end = omega (arith, c.requires.some) in
    none_read c.args.payload.now c.args.at c.args.end _ _ _ _ le c.requires.within refl c.in_default.ensures.fault

pub returns-clause-some : goal.returns-clause-some
returns-clause-some c =
    let le : c.args.at ≤ c.args.end = omega (arith, c.requires.some) in
    rw c.from.ensures (box_read c.args.payload.now c.args.at c.args.end _ _ _ _ _ _ le c.requires.within refl c.in-Ok.ensures.within.0 c.in-Ok.ensures.header)
