use Rattle.std.proofs.Common.{rules, ◌≡◌, [], ◌∷◌, ◌++◌, ◌∙◌, List, ℕ, ap, append_assoc}
use Rattle.serde_json.specs.Written.{compact_text}
use Rattle.mp4_answers.specs.words.BoxSpans.{found_value}
use Rattle.mp4_answers.proofs.BoxSpans.{top_object}
use Rattle.mp4_answers.proofs.commands.boxes.add_plain.Goals as goal

-- a line and its line feed are added
joined : (before line with_line after whole : List ℕ) → with_line ≡ before ++ line → after ≡ with_line ++ 10 ∷ [] → line ++ 10 ∷ [] ≡ whole → after ≡ before ++ whole
joined before line with_line after whole a b e = b ∙ ap (λ (xs : List ℕ). xs ++ 10 ∷ []) a ∙ append_assoc before line (10 ∷ []) ∙ ap (λ (xs : List ℕ). before ++ xs) e

pub returns-in_ok-push-in-Json-clause-line : goal.returns-in_ok-push-in-Json-clause-line
returns-in_ok-push-in-Json-clause-line g c told =
    let top = c.args.found.now in
    let uuid = c.in_ok-uuid-in-Json.uuid in
    let object = top_object (g.S.Store.file c.args.store.now) c.args.level.rule c.args.level.depth top uuid c.requires.within (c.in_ok-uuid-in-Json.ensures.uuid told) in
    rw c.in-Json.is (joined c.args.text.now.items (compact_text (found_value c.args.level.depth c.args.level.rule top uuid)) c.extend_from_slice-in-Json.new.self.items c.push.new.self.items _ (search rules) c.in_ok-push-in-Json.ensures.items object)
