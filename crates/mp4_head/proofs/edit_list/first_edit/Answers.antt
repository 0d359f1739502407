use Rattle.std.proofs.Common.{◌∙◌, ap, refl, lit<, arith, rules}
use Rattle.std.specs.Int.{w16, w64}
use Rattle.std.proofs.lemmas.Int.{to_z-of_z}
use Rattle.byteorder.specs.Endian.{twos_complement}
use Rattle.mp4_head.proofs.EditRows.{row_at}
use Rattle.mp4_head.proofs.edit_list.first_edit.Goals as goal

pub returns : goal.returns
returns c v e =
    let p = c.args.bytes.now in
    let d = c.time_at.ensures ∙ row_at p v 0 _ _ (lit< tt) e refl in
    let t = to_z-of_z w64 c.signed_time_at.result (search rules) ∙ c.signed_time_at.ensures ∙ (λ i. twos_complement (e i) (row_at p v 1 c.args.width c.args.width (lit< tt) e (omega arith) i)) in
    let n = to_z-of_z w16 c.i16_at.result (search rules) ∙ c.i16_at.ensures ∙ ap (twos_complement 2) (row_at p v 2 _ _ (lit< tt) refl (omega arith)) in
    let f = to_z-of_z w16 c.i16_at-2.result (search rules) ∙ c.i16_at-2.ensures ∙ ap (twos_complement 2) (row_at p v 3 _ _ (lit< tt) refl (omega arith)) in
    λ i. record { segment_duration = d i; media_time = t i; rate_integer = n i; rate_fraction = f i }
