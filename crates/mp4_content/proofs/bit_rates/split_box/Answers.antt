use Rattle.std.proofs.Common.{rules, ◌≡◌, true, arith}
use Rattle.mp4_content.specs.format.BitRates.{begins_box}
use Rattle.mp4_content.proofs.FirstBoxes.{begun}
use Rattle.mp4_content.proofs.bit_rates.split_box.Goals as goal

pub u32_at-size-requires : goal.u32_at-size-requires
u32_at-size-requires c =
    let is : begins_box c.args.bytes.now ≡ true = search rules in
    let h = begun c.args.bytes.now is in
    let a = h.0 in
    let b = h.1 in
    omega (arith, a, b)

pub split_at-requires : goal.split_at-requires
split_at-requires c =
    let is : begins_box c.args.bytes.now ≡ true = search rules in
    let b = (begun c.args.bytes.now is).1 in
    rw c.u32_at-size.ensures b

pub split_at-requires-2 : goal.split_at-requires-2
split_at-requires-2 c =
    let is : begins_box c.args.bytes.now ≡ true = search rules in
    let a = (begun c.args.bytes.now is).0 in
    let size = c.u32_at-size.ensures in
    let long = c.split_at.ensures.front_len in
    omega (arith, a, size, long)
