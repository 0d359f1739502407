use Rattle.std.proofs.Common.{◌++◌, ◌∙◌, ap, sym}
use Rattle.std.proofs.lemmas.List.{append-nil}
use Rattle.mp4_answers.proofs.PlainNames.{plain_none}
use Rattle.mp4_answers.proofs.text.plain_names.push_plain.Goals as goal

pub returns : goal.returns
returns c =
    sym (append-nil c.loop-first.text.items) ∙ ap (λ xs. c.loop-first.text.items ++ xs) (sym (plain_none c.loop-first.left.now c.in_default.ensures.cases)) ∙ sym c.loop-first.invariant
