use Rattle.std.proofs.Common.{◌≤◌, length, take, ◌∙◌, sym, refl, arith}
use Rattle.std.proofs.lemmas.List.{length-map, length-take}
use Rattle.mp4_boxes.specs.words.View.{box_seen}
use Rattle.mp4_tables.specs.words.Keys.{key_seen, keys_seen}
use Rattle.mp4_frag.proofs.Costs.{groups_cost_none, groups_cost_more, groups_cost_said}
use Rattle.mp4_frag.proofs.GroupsPassed.{groups_none, groups_more, group_first, groups_first, groups_sound, groups_keys}
use Rattle.mp4_frag.proofs.RunsPassed.{all_children}
use Rattle.std.proofs.Common.{◌≡◌, List, Some, subst, codes, []}
use Rattle.mp4_boxes.specs.format.Box.{Box}
use Rattle.mp4_boxes.specs.format.BoxFaults.{fault_of}
use Rattle.mp4_boxes.specs.format.FirstFault.{first_failed}
use Rattle.mp4_frag.specs.words.FragmentTests.{traf_groups_tests}
use Rattle.mp4_boxes.specs.format.Children.{of_kind}
use Rattle.mp4_frag.proofs.check.check_groups.Goals as goal

pub loop-child-init : goal.loop-child-init
loop-child-init g c =
    let keys = c.args.keys in
    let few : length (keys_seen keys) ≤ 4 = omega (arith, length-map (take keys.count keys.named) key_seen, length-take keys.count keys.named, keys.few) in
    (tt, tt, groups_none c.args.n (keys_seen keys) c.into_iter-child-iterator.result _ few refl, groups_cost_none _ _)

pub loop-child-preserved-in_default : goal.loop-child-preserved-in_default
loop-child-preserved-in_default g c = (
  tt,
  tt,
  groups_more c.args.n (keys_seen c.args.keys) _ _ _ (box_seen c.in-Some.child) _ _ _ _ c.loop-child.invariant.2 c.in-Some.ensures.steps (rw c.kind-in-loop-child.ensures at (sym c.if-eq.ensures))
      (rw c.payload-then-eq.ensures at c.in_default.ensures.sound) (rw c.payload-then-eq.ensures at c.in_default.ensures.named) (λ keys before is. ((rw c.payload-then-eq.ensures at c.in_default.ensures.exact) keys before is).names),
  groups_cost_more _ _ _ (box_seen c.in-Some.child) _ _ _ _ c.loop-child.invariant.3 c.in-Some.ensures.steps (rw c.kind-in-loop-child.ensures at (sym c.if-eq.ensures)) c.payload-then-eq.ensures c.in_default.ensures.counted c.in_default.ensures.work,
)

pub returns-clause-sound : goal.returns-clause-sound
returns-clause-sound g c =
    let all = all_children (box_seen c.args.traf) _ _ _ _ c.payload.ensures c.payload_offset.ensures c.in_ok-child-items.ensures.tiles in
    groups_sound _ _ _ _ _ _ _ c.loop-child.invariant.2 c.in-None.ensures.steps.0 (c.into_iter-child-iterator.ensures.into_iter_gives ∙ all)

pub returns-clause-keys : goal.returns-clause-keys
returns-clause-keys g c =
    let all = all_children (box_seen c.args.traf) _ _ _ _ c.payload.ensures c.payload_offset.ensures c.in_ok-child-items.ensures.tiles in
    groups_keys _ _ _ _ _ _ _ c.loop-child.invariant.2 c.in-None.ensures.steps.0 (c.into_iter-child-iterator.ensures.into_iter_gives ∙ all)

pub returns-clause-counted : goal.returns-clause-counted
returns-clause-counted g c =
    let all = all_children (box_seen c.args.traf) _ _ _ _ c.payload.ensures c.payload_offset.ensures c.in_ok-child-items.ensures.tiles in
    groups_cost_said _ _ _ _ _ c.loop-child.invariant.3 c.in-None.ensures.steps.0 (c.into_iter-child-iterator.ensures.into_iter_gives ∙ all)

-- ---- the first fault

pub returns-in-Err-clause-exact : goal.returns-in-Err-clause-exact
returns-in-Err-clause-exact g c = λ _.
    let all = all_children (box_seen c.args.traf) _ _ _ _ c.payload.ensures c.payload_offset.ensures c.in_ok-child-items.ensures.tiles in
    record {
      names = rw c.fault.ensures (subst (λ (boxes : List Box). first_failed (traf_groups_tests c.args.n (keys_seen c.args.keys) [] (of_kind (codes "sbgp") boxes)) ≡ Some (fault_of c.in-Err.kind (box_seen c.in-Some.child))) (c.into_iter-child-iterator.ensures.into_iter_gives ∙ all)
          (group_first _ _ _ _ _ (box_seen c.in-Some.child) _ _ c.in-Err.kind c.loop-child.invariant.2 c.in-Some.ensures.steps (rw c.kind-in-loop-child.ensures at (sym c.if-eq.ensures)) (λ keys before is. ((rw c.payload-then-eq.ensures at c.in-Err.ensures.exact) keys before is).names)));
    }

pub returns-clause-exact : goal.returns-clause-exact
returns-clause-exact g c = λ _.
    let all = all_children (box_seen c.args.traf) _ _ _ _ c.payload.ensures c.payload_offset.ensures c.in_ok-child-items.ensures.tiles in
    record { names = groups_first _ _ _ _ _ _ _ c.loop-child.invariant.2 c.in-None.ensures.steps.0 (c.into_iter-child-iterator.ensures.into_iter_gives ∙ all) }
