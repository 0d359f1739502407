use Rattle.std.proofs.Common.{rules, ◌≡◌, ◌∷◌, ◌++◌, ◌∙◌, [], List, ℕ, ap, sym}
use Rattle.std.proofs.lemmas.List.{append-nil}
use Rattle.mp4_answers.specs.format.SumLines.{escaped_name}
use Rattle.mp4_answers.proofs.SumsRead.{none_to_come, one_more, peeled}
use Rattle.mp4_answers.proofs.text.sum_lines.name_of.Goals as goal

pub returns-in_default-byte_at-clause-escaped : goal.returns-in_default-byte_at-clause-escaped
returns-in_default-byte_at-clause-escaped c name is_escaped is =
    let i = c.loop-first.invariant.escaped name is_escaped is in
    let e : c.loop-first.left.now ≡ c.in-Some.first.now ∷ c.in-Some.rest.now = search rules in
    let p = peeled c.loop-first.left.now c.in-Some.first.now c.in-Some.rest.now i.0 e i.1 in
    c.in_default-byte_at.ensures.escaped p.0 (escaped_name p.1) is_escaped p.3

pub loop-first-preserved : goal.loop-first-preserved
loop-first-preserved c =
    let i = c.loop-first.invariant in
    let e : c.loop-first.left.now ≡ c.in-Some.first.now ∷ c.in-Some.rest.now = search rules in
    let items : c.push.new.self.items ≡ c.loop-first.name.items ++ c.in-Some-byte_at.byte ∷ [] = search rules in
    record {
      plain = λ is.
          let said = c.in-Some-byte_at.ensures.plain is in
          i.plain is ∙ one_more c.loop-first.name.items c.push.new.self.items c.loop-first.left.now c.in-Some-byte_at.more.now c.in-Some-byte_at.byte items
          (e ∙ ap (λ (b : ℕ). b ∷ c.in-Some.rest.now) (sym said.0) ∙ ap (λ (xs : List ℕ). c.in-Some-byte_at.byte ∷ xs) (sym said.1));
      escaped = λ name is_escaped is.
          let o = i.escaped name is_escaped is in
          let p = peeled c.loop-first.left.now c.in-Some.first.now c.in-Some.rest.now o.0 e o.1 in
          let said = c.in-Some-byte_at.ensures.escaped p.0 (escaped_name p.1) is_escaped p.3 in (
            p.1,
            said.1,
            o.2 ∙ one_more c.loop-first.name.items c.push.new.self.items o.0 p.1 c.in-Some-byte_at.byte items (p.2 ∙ ap (λ (b : ℕ). b ∷ p.1) (sym said.0)),
          );
    }

pub returns-clause-escaped : goal.returns-clause-escaped
returns-clause-escaped c name is_escaped is =
    let i = c.loop-first.invariant.escaped name is_escaped is in
    let none = none_to_come c.loop-first.left.now i.0 c.in_default.ensures.cases i.1 in
    sym (i.2 ∙ ap (λ (xs : List ℕ). c.loop-first.name.items ++ xs) none ∙ append-nil c.loop-first.name.items)
