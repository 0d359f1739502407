use Rattle.std.proofs.Common.{rules, ◌≡◌, ◌∙◌, None, Some}
use Rattle.mp4_answers.specs.format.WordLists.{leaving_of, word_meant, IsCut}
use Rattle.mp4_answers.proofs.WordLists.{last_read, none_read, word_read}
use Rattle.mp4_answers.proofs.without_words.leaving_of.Goals as goal

pub returns-in_err-word_meant : goal.returns-in_err-word_meant
returns-in_err-word_meant c =
    let unknown : word_meant c.cut.result.0.now ≡ None = search rules in
    let none : c.from_residual.result ≡ None = search rules in
    none ∙ none_read c.loop-leaving.leaving c.loop-leaving.left.now c.cut.result.0.now _ (leaving_of c.args.list.now) c.cut.ensures.parts unknown c.loop-leaving.invariant

pub loop-leaving-preserved : goal.loop-leaving-preserved
loop-leaving-preserved c =
    let known : word_meant c.cut.result.0.now ≡ Some c.in_ok-word_meant.field-0 = search rules in
    let parts : IsCut 44 c.loop-leaving.left.now c.cut.result.0.now (Some c.in-Some.rest.now) = rw c.in-Some.is at c.cut.ensures.parts in
    rw c.leaving_both-leaving.ensures (word_read c.loop-leaving.leaving c.in_ok-word_meant.field-0 c.loop-leaving.left.now c.cut.result.0.now c.in-Some.rest.now (leaving_of c.args.list.now) parts known c.loop-leaving.invariant)

pub returns-in-None : goal.returns-in-None
returns-in-None c =
    let known : word_meant c.cut.result.0.now ≡ Some c.in_ok-word_meant.field-0 = search rules in
    let parts : IsCut 44 c.loop-leaving.left.now c.cut.result.0.now None = rw c.in-None.is at c.cut.ensures.parts in
    rw c.leaving_both-leaving.ensures (last_read c.loop-leaving.leaving c.in_ok-word_meant.field-0 c.loop-leaving.left.now c.cut.result.0.now (leaving_of c.args.list.now) parts known c.loop-leaving.invariant)
