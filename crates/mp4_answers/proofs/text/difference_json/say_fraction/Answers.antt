use Rattle.std.proofs.Common.{◌≡◌, ℕ, List, ◌++◌, ◌∙◌, ap, append_assoc, codes}
use Rattle.std.specs.Prelude.{decimal}
use Rattle.mp4_present.proofs.WalkCopied.{on_ok}
use Rattle.mp4_answers.specs.format.DifferenceObject.{quote}
use Rattle.mp4_answers.proofs.text.difference_json.say_fraction.Goals as goal

-- what was added, and then more
and_then : (x a b mid new : List ℕ) → mid ≡ x ++ a → new ≡ mid ++ b → new ≡ x ++ (a ++ b)
and_then x a b mid new e f = f ∙ ap (λ (text : List ℕ). text ++ b) e ∙ append_assoc x a b

pub returns : goal.returns
returns c =
    let old = c.args.text.now.items in
    let front = codes ",\"seconds\":\"" in
    let time = decimal c.args.time.time in
    let parts = decimal c.args.time.timescale in
    let counted = and_then old front time _ c.say_number.new.text.items c.in_ok-say.ensures c.in_ok-say_number.ensures in
    let over = and_then old (front ++ time) (codes "/") _ c.say-2.new.text.items counted c.in_ok-say-2.ensures in
    let whole = and_then old (front ++ time ++ codes "/") parts _ c.say_number-2.new.text.items over (rw c.from.ensures at c.in_ok-say_number-2.ensures) in
    on_ok _ _ c.say-3.result (λ e. and_then old (front ++ time ++ codes "/" ++ parts) quote _ c.say-3.new.text.items whole e) c.say-3.ensures
