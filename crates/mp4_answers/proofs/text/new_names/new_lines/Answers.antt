use Rattle.std.proofs.Common.{rules, ◌<◌, ◌∙◌, ◌++◌, ◌∷◌, [], ℕ, List, length, take, ap, sym}
use Rattle.mp4_answers.specs.format.SumLines.{new_text}
use Rattle.mp4_answers.specs.words.NameSets.{bytes_of}
use Rattle.mp4_answers.proofs.NamesFound.{new_behind, one_taken}
use Rattle.mp4_answers.proofs.text.new_names.new_lines.Goals as goal

pub loop-name-preserved : goal.loop-name-preserved
loop-name-preserved c =
    let here : c.loop-name.name-index < length c.args.given.now = search rules in
    let listed = bytes_of c.args.listed.now in
    let before = bytes_of (take c.loop-name.name-index c.args.given.now) in
    let own = c.name-item.result.items in
    c.in_ok-push_new.ensures listed c.in_ok-set.ensures
    ∙ ap (λ (t : List ℕ). t ++ new_text listed c.args.end (c.as_slice.result.now ∷ [])) c.loop-name.invariant
    ∙ ap (λ (n : List ℕ). new_text listed c.args.end before ++ new_text listed c.args.end (n ∷ [])) c.as_slice.ensures.value
    ∙ sym (new_behind listed c.args.end before (own ∷ []))
    ∙ ap (new_text listed c.args.end) (sym (one_taken c.args.given.now c.loop-name.name-index _ c.name-item.result here c.name-item.is))
