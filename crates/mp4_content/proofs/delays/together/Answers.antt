use Rattle.mp4_content.proofs.DelaysFound.{parts_less, three_parts}
use Rattle.mp4_content.proofs.delays.together.Goals as goal

pub returns-clause-is : goal.returns-clause-is
returns-clause-is c =
    rw (c.from.ensures, c.from-2.ensures, c.from-3.ensures, c.product.ensures.is, c.product-2.ensures.is, c.product-3.ensures.is, c.left.ensures, c.left-2.ensures, c.left-3.ensures)
    (three_parts c.args.a.ticks c.args.a.timescale c.args.b.ticks c.args.b.timescale c.args.c.ticks c.args.c.timescale)

pub returns-clause-parts : goal.returns-clause-parts
returns-clause-parts c =
    rw (c.product.ensures.is, c.product-2.ensures.is, c.product-3.ensures.is, c.left.ensures, c.left-2.ensures, c.left-3.ensures)
    (parts_less c.args.a.ticks c.args.a.timescale c.args.b.ticks c.args.b.timescale c.args.c.ticks c.args.c.timescale c.requires.some.0 c.requires.some.1 c.requires.some.2)
