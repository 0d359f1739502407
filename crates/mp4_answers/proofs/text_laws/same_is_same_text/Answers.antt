use Rattle.std.proofs.Common.{◌++◌, ap}
use Rattle.mp4_answers.specs.format.Text.{front_lines, text_of}
use Rattle.mp4_answers.proofs.text_laws.same_is_same_text.Goals as goal

pub returns : goal.returns
returns c l p q e = ap (λ left. front_lines l ++ text_of left) e
