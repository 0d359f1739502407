use Rattle.std.proofs.Common.{◌∙◌}
use Rattle.mp4_answers.proofs.PartTexts.{named_parts}
use Rattle.mp4_present.proofs.Latched.{goes_is}
use Rattle.mp4_answers.proofs.text.named_lines.put_named.Goals as goal

pub returns : goal.returns
returns g c = goes_is g.K.Sink c.put_parts.ensures (named_parts _ _ _ (c.split_at.ensures.back ∙ c.write_said-start.ensures.written))
