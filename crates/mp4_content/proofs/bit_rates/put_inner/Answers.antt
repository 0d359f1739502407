use Rattle.std.proofs.Common.{◌≡◌, length, ap, ◌∙◌, arith}
use Rattle.mp4_content.proofs.RatesPlaces.{esds_length}
use Rattle.mp4_content.proofs.bit_rates.put_inner.Goals as goal

pub put_box-requires-2 : goal.put_box-requires-2
put_box-requires-2 c =
    let same : length c.as_slice.result.now ≡ length c.args.kept.now.payload.now = ap length (c.as_slice.ensures.value ∙ c.in_ok-left.ensures) ∙ esds_length c.args.leaving.bitrates c.args.leaving.ids c.args.kept.now.payload.now in
    let short = c.requires in
    omega (arith, same, short)
