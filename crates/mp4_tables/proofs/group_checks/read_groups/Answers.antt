use Rattle.std.proofs.Common.{arith, sym, ◌∙◌}
use Rattle.std.proofs.lemmas.Result.{err_from_is_err_and}
use Rattle.mp4_boxes.specs.words.View.{box_seen}
use Rattle.mp4_tables.proofs.GroupWalks.{next_child, passed_first, passed_next, rows_bounded, none_passed, first_of_next, none_left}
use Rattle.mp4_tables.proofs.group_checks.read_groups.Goals as goal

pub loop-child-init : goal.loop-child-init
loop-child-init g c =
    let so = rw c.payload.ensures at c.no_groups-groups.ensures in
    let none = none_passed (box_seen c.args.stbl).payload c.args.n c.no_groups-groups.result so in
    (tt, tt, passed_first (box_seen c.args.stbl) c.args.n c.no_groups-groups.result _ so (c.into_iter-child-iterator.ensures.into_iter_gives ∙ c.children_of-child-items.ensures), omega (arith, none))

pub read_child-requires-clause-child : goal.read_child-requires-clause-child
read_child-requires-clause-child g c = next_child (box_seen c.args.stbl) (box_seen c.in-Some.child) c.args.n c.loop-child.groups c.loop-child.child-iterator c.next.new.self c.loop-child.invariant.2 c.in-Some.ensures.steps

pub loop-child-preserved : goal.loop-child-preserved
loop-child-preserved g c =
    let p = c.loop-child.invariant.3 in
    let q = c.in_ok-groups.ensures.passed _ c.loop-child.invariant.2.so in (
      tt,
      tt,
      passed_next (box_seen c.args.stbl) (box_seen c.in-Some.child) c.args.n c.loop-child.groups c.in_ok-groups.groups c.loop-child.child-iterator c.next.new.self c.loop-child.invariant.2 c.in-Some.ensures.steps (c.in_ok-groups.ensures.exact _ c.loop-child.invariant.2.so)
          c.in_ok-groups.ensures.next,
      omega arith,
    )

pub returns-in_err-groups-clause-work : goal.returns-in_err-groups-clause-work
returns-in_err-groups-clause-work g c =
    let bound = rows_bounded (box_seen c.args.stbl).payload c.loop-child.groups c.loop-child.invariant.2.so.have in
    let steps = c.loop-child.invariant.3 in
    let last = c.in_err-groups.ensures.work in
    omega (arith, bound, steps, last)

pub returns-clause-work : goal.returns-clause-work
returns-clause-work g c =
    let bound = rows_bounded (box_seen c.args.stbl).payload c.loop-child.groups c.loop-child.invariant.2.so.have in
    let steps = c.loop-child.invariant.3 in
    omega (arith, bound, steps)

pub returns-in_err-groups-clause-exact : goal.returns-in_err-groups-clause-exact
returns-in_err-groups-clause-exact g c =
    let p = err_from_is_err_and c.from_residual.result c.from_residual.ensures.1 in
    let passed = c.loop-child.invariant.2 in
    let first = first_of_next (box_seen c.args.stbl) (box_seen c.in-Some.child) c.args.n c.loop-child.groups c.loop-child.child-iterator c.next.new.self c.in_err-groups.field-0.0 passed c.in-Some.ensures.steps (c.in_err-groups.ensures.exact _ passed.so) in
    rw (p.1, p.2) (rw (sym c.requires.sizes.count) at first)

pub returns-clause-exact : goal.returns-clause-exact
returns-clause-exact g c = let first = none_left (box_seen c.args.stbl) c.args.n c.loop-child.groups c.loop-child.child-iterator c.loop-child.invariant.2 c.in-None.ensures.steps.0 in rw (sym c.requires.sizes.count) at first
