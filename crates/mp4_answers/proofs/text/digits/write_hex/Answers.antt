use Rattle.std.proofs.Common.{rules, arith}
use Rattle.mp4_answers.proofs.Decimals.{sixteenth}
use Rattle.mp4_answers.proofs.text.digits.write_hex.Goals as goal

pub loop-digit-preserved : goal.loop-digit-preserved
loop-digit-preserved c =
    let i = c.loop-digit.invariant in
    let w = c.write_byte-start.ensures in
    let s = w.start in
    (rw (w.written, i.0, c.hex_digit.ensures, i.2) (search rules), omega arith, rw i.2 (sixteenth c.args.number c.loop-digit._digit))
