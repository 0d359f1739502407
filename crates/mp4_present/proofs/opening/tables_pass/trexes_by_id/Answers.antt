use Rattle.std.proofs.Common.{◌≡◌, ℕ, ◌+◌, ◌-◌, ◌<◌, length, subst, rules, arith}
use Rattle.mp4_frag.specs.format.FragmentSamples.{no_trex}
use Rattle.mp4_present.proofs.TrexesById.{AreTrexesFrom, trex_more}
use Rattle.mp4_present.proofs.opening.tables_pass.trexes_by_id.Goals as goal

pub loop-step-preserved : goal.loop-step-preserved
loop-step-preserved c =
    let trexes = c.args.trexes.now in
    let step = c.loop-step.step in
    let k = length trexes - 1 - step in
    let lt : k < length trexes = search rules in
    let next : length trexes - step ≡ k + 1 = search rules in
    let here : k ≡ length trexes - (step + 1) = omega arith in
    let before = subst (λ (n : ℕ). AreTrexesFrom trexes c.loop-step.by_id n) next c.loop-step.invariant in
    subst (λ (n : ℕ). AreTrexesFrom trexes c.insert.new.self n) here (trex_more trexes c.loop-step.by_id c.insert.new.self k no_trex lt before (c.in-Ok.ensures.updates))
