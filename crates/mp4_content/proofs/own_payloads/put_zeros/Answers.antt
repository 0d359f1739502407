use Rattle.std.proofs.Common.{rules, ◌≡◌, ◌+◌, ◌≤◌, length, arith, ap, sym, subst, ◌∙◌, slice_set}
use Rattle.mp4_content.specs.format.Zeros.{zeroed}
use Rattle.mp4_content.proofs.Zeroed.{zero_none, zero_more, zero_enough}
use Rattle.mp4_content.proofs.own_payloads.put_zeros.Goals as goal

pub loop-done-init : goal.loop-done-init
loop-done-init c = (omega arith, sym (zero_none c.args.from c.args.bytes.now))

pub loop-done-preserved : goal.loop-done-preserved
loop-done-preserved c =
    let i = c.loop-done.invariant in
    let test = c.loop-done-test.true in
    let there = c.if-from-done.true in
    let long = c.loop-done.auto.bytes in
    (omega (arith, test), ap (λ bs. slice_set bs (c.args.from + c.loop-done.done) 0) i.1 ∙ zero_more c.args.from c.loop-done.done c.args.bytes.now (omega (arith, there, long)))

pub returns-else-from-done : goal.returns-else-from-done
returns-else-from-done c =
    let i = c.loop-done.invariant in
    let few = i.0 in
    let long = c.loop-done.auto.bytes in
    let over : length c.loop-done.bytes ≤ c.args.from + c.loop-done.done = search rules in
    i.1 ∙ zero_enough c.args.from c.loop-done.done c.args.count c.args.bytes.now (omega (arith, over, long)) few

pub returns-after-loop-done : goal.returns-after-loop-done
returns-after-loop-done c =
    let i = c.loop-done.invariant in
    let few = i.0 in
    let over : c.args.count ≤ c.loop-done.done = search rules in
    let same : c.loop-done.done ≡ c.args.count = omega (arith, few, over) in
    subst (λ n. c.loop-done.bytes ≡ zeroed c.args.from n c.args.bytes.now) same i.1
