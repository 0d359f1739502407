use Rattle.std.proofs.Common.{◌≡◌, ◌∙◌, ◌-◌, length, drop, arith, ap}
use Rattle.mp4_tables.specs.words.Keys.{key_seen, keys_seen}
use Rattle.mp4_plan.specs.format.Normal.{in_key_order}
use Rattle.mp4_answers.proofs.KeyOrder.{order_ends, order_next}
use Rattle.mp4_answers.proofs.text.sample_texts.in_order.Goals as goal

pub loop-left-init : goal.loop-left-init
loop-left-init c =
    let n = c.count-left.ensures.is in
    let none = c.new-all.ensures in
    let short = ap length none in
    (omega (arith, n, short), none ∙ order_ends (keys_seen c.args.keys.now) c.count-left.result n)

pub loop-left-preserved : goal.loop-left-preserved
loop-left-preserved c =
    let i = c.loop-left.invariant in
    let few = i.0 in
    let more = c.with_key-all.ensures.few in
    let some = c.loop-left-test.true in (
      omega (arith, few, more, some),
      order_next (keys_seen c.args.keys.now) (keys_seen c.loop-left.all) (keys_seen c.with_key-all.result) (key_seen c.key_at.result) (c.loop-left.left - 1) c.loop-left.left (omega (arith, some)) c.key_at.ensures i.1 c.with_key-all.ensures.order,
    )

pub returns : goal.returns
returns c =
    let stop = c.loop-left-test.false in
    let none : c.loop-left.left ≡ 0 = omega (arith, stop) in
    c.loop-left.invariant.1 ∙ ap (λ n. in_key_order (drop n (keys_seen c.args.keys.now))) none
