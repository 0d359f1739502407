use Rattle.std.proofs.Common.{[], ◌++◌, ◌∙◌, ap, decimal}
use Rattle.mp4_answers.proofs.PartTexts.{three_parts}
use Rattle.mp4_present.proofs.Latched.{goes_is}
use Rattle.mp4_answers.proofs.text.head_lines.put_heading.Goals as goal

pub returns : goal.returns
returns g c = goes_is g.K.Sink c.put_parts.ensures (three_parts _ _ _ _ (c.split_at.ensures.back ∙ c.write_digits-start.ensures.written ∙ ap (λ n. decimal n ++ []) c.from.ensures))
