use Rattle.std.proofs.Common.{rules, ◌≡◌, ◌∷◌, inl, inr, refl, sym, ◌∙◌}
use Rattle.mp4_answers.specs.format.SumLines.{escaped_name}
use Rattle.mp4_answers.proofs.ListedLines.{behind_slash, escaped_long, first_digit, first_same, line_is}
use Rattle.mp4_answers.proofs.text.sum_lines.listed_sum.Goals as goal

pub returns-then-first-eq35-clause-sum : goal.returns-then-first-eq35-clause-sum
returns-then-first-eq35-clause-sum c digest name bytes len some is =
    let rest = c.in-Some.rest.now in
    let e : c.args.line.now ≡ 35 ∷ c.in-Some.rest.now = search rules in
    elim (line_is c.args.line.now name digest is) [
      | inl l ↦ absurd (let none : 35 ∷ c.in-Some.rest.now ≡ 92 ∷ _ = sym e ∙ l in cc)
      | inr l ↦ absurd ((first_digit c.args.line.now digest _ 35 rest len l e).0 refl)
    ]

pub returns-then-first-eq92-clause-sum : goal.returns-then-first-eq92-clause-sum
returns-then-first-eq92-clause-sum c digest name bytes len some is =
    let rest = c.in-Some.rest.now in
    let e : c.args.line.now ≡ 92 ∷ c.in-Some.rest.now = search rules in
    elim (line_is c.args.line.now name digest is) [
      | inl l ↦ c.sum_behind.ensures.sum digest (escaped_name name) name bytes len (escaped_long name some) (behind_slash c.args.line.now rest _ e l) refl
      | inr l ↦ absurd ((first_digit c.args.line.now digest _ 92 rest len l e).1 refl)
    ]

pub returns-clause-sum : goal.returns-clause-sum
returns-clause-sum c digest name bytes len some is =
    elim (line_is c.args.line.now name digest is) [
      | inl l ↦ absurd (c.if-first-eq92.false (first_same c.args.line.now c.in-Some.rest.now _ c.in-Some.first.now 92 c.in-Some.ensures.cases.0 l))
      | inr l ↦ c.sum_behind-2.ensures.sum digest name name bytes len some l refl
    ]
