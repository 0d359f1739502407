use Rattle.std.proofs.Common.{rules, [], ◌∷◌, decimal, ap, refl}
use Rattle.std.specs.Fmt.{signed_decimal}
use Rattle.mp4_answers.proofs.HeadTexts.{said_is}
use Rattle.mp4_answers.proofs.text.head_lines.movie_values.Goals as goal

pub returns : goal.returns
returns c =
    let e0 = said_is c.number.result _ _ _ c.number.ensures.name c.number.ensures.said (refl) in
    let e1 = said_is c.number-2.result _ _ _ c.number-2.ensures.name c.number-2.ensures.said (refl) in
    let e2 = said_is c.number-3.result _ _ _ c.number-3.ensures.name c.number-3.ensures.said (ap (λ n. decimal n ∷ []) c.from.ensures) in
    let e3 = said_is c.signed.result _ _ (signed_decimal c.args.head.now.rate ∷ []) c.signed.ensures.name c.signed.ensures.said (search rules) in
    let e4 = said_is c.signed-2.result _ _ (signed_decimal c.args.head.now.volume ∷ []) c.signed-2.ensures.name c.signed-2.ensures.said (search rules) in
    let e5 = said_is c.saying.result _ _ _ c.saying.ensures.name c.saying.ensures.said (refl) in
    λ i. e0 i ∷ e1 i ∷ e2 i ∷ e3 i ∷ e4 i ∷ e5 i ∷ []
