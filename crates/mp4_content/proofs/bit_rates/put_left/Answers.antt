use Rattle.std.proofs.Common.{length, ap, ◌∙◌, arith}
use Rattle.mp4_content.proofs.RatesShort.{wave_short}
use Rattle.mp4_content.proofs.bit_rates.put_left.Goals as goal

pub put_box-requires : goal.put_box-requires
put_box-requires c =
    let same = ap (λ bs. length bs) (c.as_slice.ensures.value ∙ c.in_ok-left.ensures) in
    let less = wave_short c.args.leaving.bitrates c.args.leaving.ids c.args.kept.now.payload.now in
    let short = c.requires in
    omega (arith, same, less, short)
