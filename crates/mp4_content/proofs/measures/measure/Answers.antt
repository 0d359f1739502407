use Rattle.std.proofs.Common.{◌≡◌, ◌+◌, ◌≤◌, true, Bool, if◌then◌else◌, subst, sym, ◌∙◌}
use Rattle.mp4_present.specs.words.WalkSteps.{walks_steps}
use Rattle.mp4_content.specs.words.Measuring.{measures}
use Rattle.mp4_content.proofs.measures.measure.Goals as goal

pub returns-clause-measured : goal.returns-clause-measured
returns-clause-measured g c told tree o are = c.in_ok-measure_at_once.ensures.measured (sym c.asks_samples.ensures ∙ c.if-asks_samples.false) (g.S.Store.file c.args.store.now) tree o are

pub returns-then-asks_samples-clause-measured : goal.returns-then-asks_samples-clause-measured
returns-then-asks_samples-clause-measured g c told tree o are = c.measure_all.ensures.measured (sym c.asks_samples.ensures ∙ c.if-asks_samples.true) told tree o are

pub returns-then-asks_samples-clause-work : goal.returns-then-asks_samples-clause-work
returns-then-asks_samples-clause-work g c told tree o =
    let asks : measures c.args.leaving ≡ true = sym c.asks_samples.ensures ∙ c.if-asks_samples.true in
    subst (λ (b : Bool). c.measure_all.new.steps.passed ≤ c.args.steps.now.passed + (if b then walks_steps tree else 0)) (sym asks) (c.measure_all.ensures.work told tree o)
