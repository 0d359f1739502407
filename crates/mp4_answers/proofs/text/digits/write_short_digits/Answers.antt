use Rattle.std.proofs.Common.{rules, ◌^◌, ◌<◌, arith}
use Rattle.mp4_answers.proofs.Decimals.{length_short}
use Rattle.mp4_answers.proofs.text.digits.write_short_digits.Goals as goal

pub write_digits-requires : goal.write_digits-requires
write_digits-requires c = let small : c.from.result < 2 ^ 32 = search rules in let room = c.requires.room in let within = c.requires.within in (omega (arith, length_short c.from.result small), within)

pub returns-clause-short : goal.returns-clause-short
returns-clause-short c = let small : c.from.result < 2 ^ 32 = search rules in let e = c.write_digits.ensures.start in omega (arith, length_short c.from.result small)
