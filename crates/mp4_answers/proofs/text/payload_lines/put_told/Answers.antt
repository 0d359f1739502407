use Rattle.std.proofs.Common.{◌∙◌, [], ◌++◌, ap}
use Rattle.mp4_answers.specs.format.Texts.{hex_text}
use Rattle.mp4_answers.proofs.PartTexts.{told_by_digest}
use Rattle.mp4_present.proofs.Latched.{goes_is}
use Rattle.mp4_answers.proofs.text.payload_lines.put_told.Goals as goal

pub returns : goal.returns
returns g c =
    goes_is g.K.Sink c.put_parts.ensures (told_by_digest _ _ _ _ _ c.requires (c.split_at.ensures.back ∙ c.write_digits-start.ensures.written) (c.split_at-2.ensures.back ∙ c.write_bytes_in_hex-first.ensures.written ∙ ap (λ ds. hex_text ds ++ []) c.digest.ensures))
