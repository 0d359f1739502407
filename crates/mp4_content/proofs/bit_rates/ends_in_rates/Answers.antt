use Rattle.std.proofs.Common.{◌≡◌, ◌+◌, ◌-◌, length, take, drop, sym, ap, ◌∙◌, arith}
use Rattle.std.specs.Prelude.{bytes_eq}
use Rattle.mp4_content.proofs.RatesAtEnd.{ends_if, ends_other, ends_short}
use Rattle.mp4_content.proofs.bit_rates.ends_in_rates.Goals as goal

pub returns-then-payload-lt28 : goal.returns-then-payload-lt28
returns-then-payload-lt28 c = sym (ends_short c.args.payload.now c.if-payload-lt28.true)

pub returns-then-u32_at-ne20 : goal.returns-then-u32_at-ne20
returns-then-u32_at-ne20 c = sym (ends_other c.args.payload.now (λ e. c.if-u32_at-ne20.true (c.u32_at.ensures ∙ e)))

pub returns : goal.returns
returns c =
    let long = c.if-payload-lt28.false in
    let n : length c.args.payload.now - 20 + 4 ≡ length c.args.payload.now - 16 = omega (arith, long) in
    let last = c.split_at.ensures.back ∙ ap (λ k. drop k c.args.payload.now) n in
    c.eq.ensures ∙ (λ i. bytes_eq (take 4 (last i)) (c.as_slice.ensures i)) ∙ ends_if c.args.payload.now long (sym c.u32_at.ensures ∙ c.if-u32_at-ne20.false)
