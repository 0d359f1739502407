use Rattle.std.proofs.Common.{rules, ◌≡◌, ◌++◌, ◌∙◌, List, ℕ, ap, string_bytes}
use Rattle.mp4_answers.specs.format.BoxTexts.{opened}
use Rattle.mp4_answers.proofs.BoxSpans.{top_text}
use Rattle.mp4_answers.proofs.commands.boxes.add_opened.Goals as goal

pub returns-clause-object : goal.returns-clause-object
returns-clause-object g c told =
    let object = c.in_ok-object.ensures ∙ top_text (g.S.Store.file c.args.store.now) c.args.level.rule c.args.level.depth c.args.found.now c.in_ok-uuid.uuid c.requires.within (c.in_ok-uuid.ensures.uuid told) in
    let bytes : c.as_bytes.result.now ≡ string_bytes c.in_ok-object.object = search rules in
    c.in_ok-push_opened.ensures ∙ ap (λ (xs : List ℕ). c.args.text.now.items ++ opened xs) (bytes ∙ object)
