use Rattle.std.proofs.Common.{arith}
use Rattle.mp4_content.proofs.RatesPlaces.{number_small}
use Rattle.mp4_content.proofs.bit_rates.length_number.Goals as goal

pub overflow_mul-number : goal.overflow_mul-number
overflow_mul-number c =
    let before = c.loop-k-test.true in
    let few = c.requires.width in
    let small = number_small c.loop-k.k c.args.bytes.now c.args.at (omega (arith, before, few)) in
    let is = c.loop-k.invariant in
    omega (arith, small, is)

pub overflow_add-number : goal.overflow_add-number
overflow_add-number c =
    let before = c.loop-k-test.true in
    let few = c.requires.width in
    let small = number_small c.loop-k.k c.args.bytes.now c.args.at (omega (arith, before, few)) in
    let is = c.loop-k.invariant in
    omega (arith, small, is)

pub returns-clause-small : goal.returns-clause-small
returns-clause-small c =
    let few = c.requires.width in
    let end = c.loop-k.auto.k-end in
    let small = number_small c.loop-k.k c.args.bytes.now c.args.at (omega (arith, end, few)) in
    let is = c.loop-k.invariant in
    omega (arith, small, is)
