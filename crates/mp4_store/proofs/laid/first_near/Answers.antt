use Rattle.std.proofs.Common.{◌≡◌, Bool, true, false, not, IsTrue, true≢false, sym, ◌∙◌, inl, inr, ◌+◌, ◌-◌, ◌<◌, ◌≤◌, length, take, drop, get_or, ap, refl, subst, arith, length-take}
use Rattle.std.proofs.lemmas.Bool.{cases_lt}
use Rattle.std.proofs.lemmas.List.{get_or-drop, get_or-take}
use Rattle.mp4_store.proofs.laid.first_near.Goals.{then-end-places, else-end-places}
use Rattle.mp4_store.proofs.laid.first_near.Goals as goal

pub returns-then-all_end_before-clause-before : goal.returns-then-all_end_before-clause-before
returns-then-all_end_before-clause-before c = λ k d lo hi.
    let places = c.args.places.now in
    let guess = c.args.guess in
    elim (cases_lt k guess) [
      | inl lt ↦ c.if-all_end_before.ensures.before refl k d lo lt
      | inr le ↦
          let m = c.min-end.result - guess in
          let within : c.first_from.result ≤ length (take m (drop guess places)) = c.first_from.ensures.within in
          let count = length-take m (drop guess places) in
          let few : k - guess < m = omega (arith, le, hi, within, count) in
          let here = get_or-take m (drop guess places) (k - guess) d few ∙ get_or-drop guess places (k - guess) d ∙ ap (λ i. get_or places i d) (omega (arith, le)) in
          subst (λ p. p + 4 ≤ c.args.at) here (c.first_from.ensures.before (k - guess) d (omega arith) (omega (arith, le, hi)))
    ]

-- of a place behind another one nobody says that it lies before
ends_not : (b : Bool) → not b ≡ true → IsTrue b → ⊥
ends_not true e _ = true≢false (sym e)
ends_not false _ t = true≢false (sym t)

pub returns-then-all_end_before-clause-first : goal.returns-then-all_end_before-clause-first
returns-then-all_end_before-clause-first c = λ lt.
    let places = c.args.places.now in
    let guess = c.args.guess in
    let r = c.first_from.result in
    let m = c.min-end.result - guess in
    let count = length-take m (drop guess places) in
    let within : r ≤ length (take m (drop guess places)) = c.first_from.ensures.within in
    let guess_within : guess ≤ length places = c.if-all_end_before.ensures.within refl in
    elim (cases_lt r (length (take m (drop guess places)))) [
      | inl few ↦
          let here = get_or-take m (drop guess places) r 0 (omega (arith, few, count)) ∙ get_or-drop guess places r 0 in
          subst (λ p. c.args.at < p + 4) here (c.first_from.ensures.first few)
      | inr all ↦ elim (c.if-end-places.branch) [
        | then-end-places w ↦ let end = w.if-end-places.true in absurd (omega (arith, lt, all, count, end))
        | else-end-places w ↦
            let end = c.min-end.result in
            let here : end ≡ guess + r = omega (arith, lt, all, within, count, guess_within) in
            elim (cases_lt c.args.at (get_or places end 0 + 4)) [
              | inl less ↦ subst (λ k. c.args.at < get_or places k 0 + 4) here less
              | inr ends ↦ absurd (ends_not w.ends_before.result (sym w.is_behind-is ∙ c.if-is_behind.true) (w.ends_before.ensures.1 ends))
            ]
      ]
    ]
