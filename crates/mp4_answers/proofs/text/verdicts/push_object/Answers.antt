use Rattle.std.proofs.Common.{◌≡◌, ◌+◌, ◌∙◌, ℕ, List, [], ◌∷◌, ◌++◌, refl, ap, append_assoc, Ok, Err}
use Rattle.std.specs.Prelude.{Result, codes, decimal}
use Rattle.std.specs.Fmt.{digits}
use Rattle.mp4_boxes.specs.declared.refusal.Refusal.{Refusal}
use Rattle.mp4_boxes.specs.declared.refusal.Refusal.TheVariants as refusals
use Rattle.mp4_answers.specs.format.Verdicts.{verdict_members, verdict_status}
use Rattle.mp4_answers.proofs.text.verdicts.push_object.Goals as goal

-- a status is one digit
status_digit : {A : Type 0} (answer : Result A Refusal) → (48 + verdict_status answer) ∷ [] ≡ decimal (verdict_status answer)
unfolding digits
status_digit (Ok done) = refl
status_digit (Err (refusals.Fault f)) = refl
status_digit (Err refusals.Memory) = refl
status_digit (Err refusals.StoreFailed) = refl
status_digit (Err refusals.StoreChanged) = refl
status_digit (Err refusals.WriteFailed) = refl
status_digit (Err refusals.NoSuchTrack) = refl

joined : (start first second third fourth last brace middle label digit close : List ℕ) → first ≡ start ++ brace → second ≡ first ++ middle → third ≡ second ++ label → fourth ≡ third ++ digit → last ≡ fourth ++ close
    → last ≡ start ++ (brace ++ middle ++ label ++ digit ++ close)
joined start first second third fourth last brace middle label digit close a b c d e = rw (e, d, c, b, a) (simp append_assoc refl)

pub returns : goal.returns
returns c =
    let digit = ap (λ (n : ℕ). (48 + n) ∷ []) c.verdict_status.ensures ∙ status_digit c.args.answer.now in
    let fourth = c.in_ok-push-2.ensures.items ∙ ap (λ (xs : List ℕ). c.extend_from_slice.new.self.items ++ xs) digit in
    joined c.args.line.now.items c.push.new.self.items c.push_members.new.line.items c.extend_from_slice.new.self.items c.push-2.new.self.items c.push-3.new.self.items (codes "{") (verdict_members c.args.name.now c.args.answer.now) (codes ",\"status\":")
    (decimal (verdict_status c.args.answer.now)) (codes "}") c.in_ok-push.ensures.items c.in_ok-push_members.ensures c.in_ok-extend_from_slice.ensures.items fourth c.in_ok-push-3.ensures.items
