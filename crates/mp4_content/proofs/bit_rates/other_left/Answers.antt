use Rattle.std.proofs.Common.{rules, ◌≡◌, length, true, false, sym, ap, ◌∙◌, arith, refl}
use Rattle.mp4_content.specs.format.BitRates.{ends_in_rates, other_left}
use Rattle.mp4_content.proofs.FirstBoxes.{if_ok}
use Rattle.mp4_content.proofs.RatesAtEnd.{ends_so, shorter_more, shorter_stop}
use Rattle.mp4_content.proofs.bit_rates.other_left.Goals as goal

pub loop-front-init : goal.loop-front-init
loop-front-init c = refl

pub overflow_sub-front : goal.overflow_sub-front
overflow_sub-front c =
    let ends : ends_in_rates c.loop-front.front.now ≡ true = search rules in
    let long = (ends_so c.loop-front.front.now ends).0 in
    omega (arith, long)

pub loop-front-smaller : goal.loop-front-smaller
loop-front-smaller c =
    let ends : ends_in_rates c.loop-front.front.now ≡ true = search rules in
    let long = (ends_so c.loop-front.front.now ends).0 in
    let few = c.split_at.ensures.front_len in
    omega (arith, long, few)

pub loop-front-preserved : goal.loop-front-preserved
loop-front-preserved c =
    let ends : ends_in_rates c.loop-front.front.now ≡ true = search rules in
    ap other_left c.split_at.ensures.front ∙ shorter_more c.loop-front.front.now ends ∙ c.loop-front.invariant

pub returns : goal.returns
returns c =
    let ends : ends_in_rates c.loop-front.front.now ≡ false = search rules in
    if_ok (λ left. left.items ≡ c.loop-front.front.now) (λ left. left.items ≡ other_left c.args.payload.now) c.copied.result
    (λ left e. e ∙ sym (shorter_stop (length c.loop-front.front.now) c.loop-front.front.now ends) ∙ c.loop-front.invariant) c.copied.ensures
