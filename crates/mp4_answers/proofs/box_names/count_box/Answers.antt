use Rattle.std.proofs.Common.{◌≡◌, ℕ, List, length, ap, sym, ◌∙◌, arith, rules}
use Rattle.mp4_answers.specs.format.StripCounts.{first_meant}
use Rattle.mp4_answers.specs.words.CountedBoxes.{counts_on}
use Rattle.mp4_answers.proofs.BoxCounts.{first_counted, none_counted}
use Rattle.mp4_answers.proofs.box_names.count_box.Goals as goal

pub returns-then-means : goal.returns-then-means
returns-then-means c =
    let i = c.loop-k.invariant in
    let end = c.min-k-end.ensures in
    let long : length c.loop-k.counts ≡ length c.args.counts.now = ap length i.same in
    first_counted c.args.rule c.args.own.kind.0 c.args.own.uuid c.loop-k.k c.args.names.now c.loop-k.counts _ c.saturating_add.result (omega arith) (omega (arith, long)) (sym c.means.ensures ∙ c.if-means.true) i.before (search rules)
    ∙ ap (λ (cs : List ℕ). counts_on cs (first_meant c.args.rule c.args.own.kind.0 c.args.own.uuid c.args.names.now)) i.same

pub returns : goal.returns
returns c =
    let i = c.loop-k.invariant in
    let end = c.min-k-end.ensures in
    let long : length c.loop-k.counts ≡ length c.args.counts.now = ap length i.same in
    none_counted c.args.rule c.args.own.kind.0 c.args.own.uuid c.loop-k.k c.args.names.now c.loop-k.counts (omega (arith, long)) i.before
    ∙ ap (λ (cs : List ℕ). counts_on cs (first_meant c.args.rule c.args.own.kind.0 c.args.own.uuid c.args.names.now)) i.same
