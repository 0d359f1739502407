use Rattle.std.proofs.Common.{arith}
use Rattle.mp4_answers.proofs.Decimals.{length_long}
use Rattle.mp4_answers.proofs.text.digits.write_digits.Goals as goal

pub write_digits-requires : goal.write_digits-requires
write_digits-requires c = let room = c.requires.room in let within = c.requires.within in let fits = c.ranges.number.fits in (omega (arith, length_long c.args.number (omega arith)), within)

pub returns-clause-short : goal.returns-clause-short
returns-clause-short c = let e = c.write_digits.ensures.start in let fits = c.ranges.number.fits in omega (arith, length_long c.args.number (omega arith))
