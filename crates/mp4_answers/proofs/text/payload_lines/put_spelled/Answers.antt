use Rattle.std.proofs.Common.{◌∙◌}
use Rattle.mp4_present.proofs.Latched.{goes_as}
use Rattle.mp4_answers.proofs.PartTexts.{spelled}
use Rattle.mp4_answers.proofs.text.payload_lines.put_spelled.Goals as goal

pub returns : goal.returns
returns g c = goes_as g.K.Sink _ _ _ c.put_parts.ensures c.put_dumps.ensures (spelled _ _ _ _ c.requires (c.split_at.ensures.back ∙ c.write_digits-start.ensures.written))
