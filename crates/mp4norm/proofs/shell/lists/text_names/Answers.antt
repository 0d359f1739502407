use Rattle.std.proofs.Common.{rules, arith, ◌≡◌, ◌∙◌, ◌<◌, ◌+◌, ℕ, List, [], ◌∷◌, ◌++◌, length, false, true, sym, subst, ap}
use Rattle.std.proofs.lemmas.List.{append_assoc}
use Rattle.mp4norm.specs.format.Lists.{AreTaken, HasOdd, bytes_of, is_odd, names_of}
use Rattle.mp4norm.proofs.ListNames.{held_count, held_more, named_first, names_first, odd_there, passed_first, taken_more}
use Rattle.mp4norm.proofs.shell.lists.text_names.Goals as goal

pub returns-in-Some-clause-odd : goal.returns-in-Some-clause-odd
returns-in-Some-clause-odd c =
    let some : 0 < length c.loop-left.left.now = search rules in
    let lines = names_first c.loop-left.left.now c.first_line.result.0.now c.first_line.result.1.now some c.first_line.ensures.line in
    let name = c.without_return-name.result.now in
    let done = bytes_of c.loop-left.names.items in
    let all = named_first c.loop-left.left.now c.first_line.result.0.now c.first_line.result.1.now name done _ c.loop-left.invariant.0 lines c.without_return-name.ensures (sym c.is_name.ensures ∙ c.if-is_name.true) in
    subst (λ (ns : List (List ℕ)). HasOdd c.args.most 0 ns) (sym all)
    (odd_there c.args.most 0 done name (names_of c.first_line.result.1.now)
    (subst (λ (n : ℕ). is_odd c.args.most n name ≡ true) (omega (arith, c.len.ensures, held_count c.loop-left.names.items)) c.in-Some.ensures.odd))

pub loop-left-preserved : goal.loop-left-preserved
loop-left-preserved c =
    let some : 0 < length c.loop-left.left.now = search rules in
    let lines = names_first c.loop-left.left.now c.first_line.result.0.now c.first_line.result.1.now some c.first_line.ensures.line in
    (passed_first c.loop-left.left.now c.first_line.result.0.now c.first_line.result.1.now c.without_return-name.result.now (bytes_of c.loop-left.names.items) _ c.loop-left.invariant.0 lines c.without_return-name.ensures (sym c.is_name.ensures ∙ c.if-is_name.false), c.loop-left.invariant.1)

pub loop-left-preserved-in_ok-push : goal.loop-left-preserved-in_ok-push
loop-left-preserved-in_ok-push c =
    let some : 0 < length c.loop-left.left.now = search rules in
    let lines = names_first c.loop-left.left.now c.first_line.result.0.now c.first_line.result.1.now some c.first_line.ensures.line in
    let name = c.without_return-name.result.now in
    let done = bytes_of c.loop-left.names.items in
    let all = named_first c.loop-left.left.now c.first_line.result.0.now c.first_line.result.1.now name done _ c.loop-left.invariant.0 lines c.without_return-name.ensures (sym c.is_name.ensures ∙ c.if-is_name.true) in
    let own : c.extend_from_slice.new.self.items ≡ name = c.in_ok-extend_from_slice.ensures.items ∙ ap (λ (ns : List ℕ). ns ++ name) c.new-bytes.ensures.items in
    let held : bytes_of c.push.new.self.items ≡ done ++ name ∷ [] = ap bytes_of c.in_ok-push.ensures.items ∙ held_more c.loop-left.names.items c.extend_from_slice.new.self ∙ ap (λ (ns : List ℕ). done ++ ns ∷ []) own in (
      all ∙ sym (append_assoc done (name ∷ []) (names_of c.first_line.result.1.now)) ∙ ap (λ (ns : List (List ℕ)). ns ++ names_of c.first_line.result.1.now) (sym held),
      subst (λ (ns : List (List ℕ)). AreTaken c.args.most 0 ns) (sym held) (taken_more c.args.most 0 done name c.loop-left.invariant.1
          (subst (λ (n : ℕ). is_odd c.args.most n name ≡ false) (omega (arith, c.len.ensures, held_count c.loop-left.names.items)) c.in_default.ensures.fair)),
    )
