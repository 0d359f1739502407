use Rattle.std.proofs.Common.{length, sym, ap, ◌∙◌}
use Rattle.std.specs.Prelude.{nat_le}
use Rattle.mp4_content.proofs.FirstBoxes.{begins_if, too_short, small_size}
use Rattle.mp4_content.proofs.bit_rates.begins_box.Goals as goal

pub returns-then-bytes-lt8 : goal.returns-then-bytes-lt8
returns-then-bytes-lt8 c = sym (too_short c.args.bytes.now c.if-bytes-lt8.true)

pub returns-then-size-lt8 : goal.returns-then-size-lt8
returns-then-size-lt8 c = sym (small_size c.args.bytes.now (rw c.u32_at-size.ensures at c.if-size-lt8.true))

pub returns : goal.returns
returns c = ap (λ n. nat_le n (length c.args.bytes.now)) c.u32_at-size.ensures
    ∙ begins_if c.args.bytes.now (rw c.u32_at-size.ensures at c.if-size-lt8.false) (rw c.u32_at-size.ensures at c.u32_at-size.type_inv)
