use Rattle.std.proofs.Common.{◌≡◌, ◌∙◌, ◌≤◌, ◌+◌, ◌^◌, ◌∷◌, ◌++◌, [], take, length, flat_map, get_or, refl, rules, ap, arith}
use Rattle.std.proofs.lemmas.List.{take_more}
use Rattle.std.proofs.lemmas.List.Folds.{length-flat_map-take}
use Rattle.mp4_store.proofs.Parts.{ends_of-more, length-one_more}
use Rattle.mp4_store.proofs.joined.ends.Goals as goal

pub returns-in_default-clause-none : goal.returns-in_default-clause-none
returns-in_default-clause-none g c = λ e.
    let F = g.S.Store.file in
    let all = length-flat_map-take F c.args.parts.now c.loop-part.part-index c.part-item.result c.loop-part-test.true in
    let item : length (F (get_or c.args.parts.now c.loop-part.part-index c.part-item.result)) ≡ c.len.result = search rules in
    let end = c.loop-part.invariant.1 in
    let big : 2 ^ 64 ≤ c.loop-part.end + c.len.result = search rules in
    omega (arith, all, item, end, big)

pub loop-part-preserved : goal.loop-part-preserved
loop-part-preserved g c =
    let F = g.S.Store.file in
    let more = take_more c.args.parts.now c.loop-part.part-index c.part-item.result c.loop-part-test.true in
    let item : get_or c.args.parts.now c.loop-part.part-index c.part-item.result ≡ c.part-item.result = search rules in
    let next : c.in-Some.next ≡ c.loop-part.end + c.len.result = search rules in
    let pushed : c.push.new.self.items ≡ c.loop-part.ends.items ++ c.in-Some.next ∷ [] = search rules in
    let ends = ends_of-more F 0 (take c.loop-part.part-index c.args.parts.now) c.part-item.result in
    let total = length-one_more F c.args.parts.now c.loop-part.part-index c.part-item.result c.loop-part-test.true in
    let end = c.loop-part.invariant.1 in
    let len : c.len.result ≡ length (F c.part-item.result) = search rules in
    let taken : take (c.loop-part.part-index + 1) c.args.parts.now ≡ take c.loop-part.part-index c.args.parts.now ++ c.part-item.result ∷ [] = more ∙ ap (λ x. take c.loop-part.part-index c.args.parts.now ++ x ∷ []) item in
    let last : c.in-Some.next ≡ 0 + length (flat_map F (take c.loop-part.part-index c.args.parts.now)) + length (F c.part-item.result) = omega (arith, next, end, len) in
    (pushed ∙ rw taken (rw (ends, c.loop-part.invariant.0, last) refl), last ∙ rw (total, item) (omega arith))
