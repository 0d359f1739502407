use Rattle.std.proofs.Common.{rules}
use Rattle.mp4_answers.proofs.Decimals.{last_digit}
use Rattle.mp4_answers.proofs.text.digits.write_long_digits.Goals as goal

pub returns-clause-written : goal.returns-clause-written
returns-clause-written c = rw (c.write_digits-2.ensures.written, c.write_byte-last.ensures.written) (last_digit c.args.number _ (search rules) (search rules))
