use Rattle.std.proofs.Common.{rules, arith, ◌≡◌, ◌+◌, ◌*◌, ◌/◌, ◌%◌, ◌<◌, subst, sym, pow_pos}
use Rattle.mp4_plan.proofs.DueTrees.{none_before, width_few, node_few, beside, above, wider, narrower, under, passed_on, read_late}
use Rattle.mp4_plan.proofs.due_tracks.DueTracks.first_before.Goals as goal

pub returns-then-index-cut : goal.returns-then-index-cut
returns-then-index-cut c k from lt =
    let d = c.args.self.now in
    let some = c.requires.some in
    let many = c.requires.tree.many in
    let late = read_late d.least.items 1 c.index.result.now c.args.cut c.index.ensures (omega (arith, many, some)) (search rules) in
    none_before d.least.items d.leaves c.requires.tree.each c.args.cut k late lt

pub loop-at-preserved-then-node-eq0 : goal.loop-at-preserved-then-node-eq0
loop-at-preserved-then-node-eq0 c =
    let d = c.args.self.now in
    let i = c.loop-at.invariant in
    let node = c.loop-at.node in
    let width = c.loop-at.width in
    let at = c.loop-at.at in
    let test : at < d.leaves = search rules in
    let many = c.requires.tree.many in
    let pos = subst (λ w. 0 < w) (sym i.levels.1) (pow_pos i.levels.0) in
    let inside = node_few node width d.leaves at pos i.place in
    let late = read_late d.least.items node c.index-in-loop-at.result.now c.args.cut c.index-in-loop-at.ensures (omega (arith, many, inside, test)) (search rules) in
    let even : (node + 1) % 2 ≡ 0 = search rules in
    let some = i.some in
    let from = i.from in
    let wide = width_few node width d.leaves at i.some i.place in
    let next = beside node width d.leaves at i.place in
    let up = above (node + 1) width d.leaves (at + width) next even in
    let there : 0 < (node + 1) / 2 = omega (arith, some, even) in
    let wide_up = width_few ((node + 1) / 2) (width * 2) d.leaves (at + width) there up in
    let high = i.high in
    record {
      levels = (i.levels.0 + 1, wider width i.levels.0 i.levels.1);
      place = up;
      some = there;
      from = omega (arith, from);
      few = omega (arith, wide, test);
      wide = omega (arith, wide_up, wide, test);
      high = omega (arith, high, some);
      passed = passed_on d.least.items d.leaves c.requires.tree.each i.levels.0 node width at c.args.cut c.args.from i.levels.1 i.some i.place late i.passed;
    }

pub loop-at-preserved-else-node-eq0 : goal.loop-at-preserved-else-node-eq0
loop-at-preserved-else-node-eq0 c =
    let d = c.args.self.now in
    let i = c.loop-at.invariant in
    let node = c.loop-at.node in
    let width = c.loop-at.width in
    let at = c.loop-at.at in
    let test : at < d.leaves = search rules in
    let many = c.requires.tree.many in
    let pos = subst (λ w. 0 < w) (sym i.levels.1) (pow_pos i.levels.0) in
    let inside = node_few node width d.leaves at pos i.place in
    let late = read_late d.least.items node c.index-in-loop-at.result.now c.args.cut c.index-in-loop-at.ensures (omega (arith, many, inside, test)) (search rules) in
    let some = i.some in
    let from = i.from in
    let wide = width_few node width d.leaves at i.some i.place in
    let next = beside node width d.leaves at i.place in
    record {
      levels = i.levels;
      place = next;
      some = omega (arith, some);
      from = omega (arith, from);
      few = omega (arith, wide, test);
      wide = omega (arith, wide, test);
      high = omega (arith, inside, test);
      passed = passed_on d.least.items d.leaves c.requires.tree.each i.levels.0 node width at c.args.cut c.args.from i.levels.1 i.some i.place late i.passed;
    }

pub loop-at-preserved : goal.loop-at-preserved
loop-at-preserved c =
    let d = c.args.self.now in
    let i = c.loop-at.invariant in
    let node = c.loop-at.node in
    let width = c.loop-at.width in
    let at = c.loop-at.at in
    let test : at < d.leaves = search rules in
    let more : width ≡ 1 → ⊥ = search rules in
    let half = narrower width i.levels.0 i.levels.1 more in
    let down = under node width d.leaves at i.place half.2 in
    let pos = subst (λ w. 0 < w) (sym half.1) (pow_pos half.0) in
    let high = node_few (node * 2) (width / 2) d.leaves at pos down in
    let some = i.some in
    let wide = i.wide in
    record {
      levels = (half.0, half.1);
      place = down;
      some = omega (arith, some);
      from = i.from;
      few = i.few;
      wide = omega (arith, wide);
      high = omega (arith, high, test);
      passed = i.passed;
    }
