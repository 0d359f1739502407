use Rattle.std.proofs.Common.{◌∷◌, ◌∙◌, ap}
use Rattle.mp4_answers.proofs.PartTexts.{with_type}
use Rattle.mp4_present.proofs.Latched.{goes_is}
use Rattle.mp4_answers.proofs.text.payload_lines.put_kept.Goals as goal

pub returns : goal.returns
returns g c =
    goes_is g.K.Sink c.put_payload.ensures (with_type _ _ _ _ (c.split_at.ensures.back ∙ c.write_byte-start.ensures.written ∙ ap (λ bs. 32 ∷ bs) c.write_type-start.ensures.written))
