use Rattle.std.proofs.Common.{◌∙◌, sym, rules, arith}
use Rattle.mp4_boxes.specs.words.View.{box_seen}
use Rattle.mp4_frag.proofs.Costs.{runs_cost_run, runs_cost_said, runs_cost_ended, runs_work_ended, runs_cost_fault}
use Rattle.std.proofs.Common.{subst, codes}
use Rattle.mp4_boxes.specs.format.Children.{of_kind}
use Rattle.std.proofs.Common.{◌≡◌, List, Some}
use Rattle.mp4_boxes.specs.format.Box.{Box}
use Rattle.mp4_boxes.specs.format.BoxFaults.{fault_of}
use Rattle.mp4_boxes.specs.format.FirstFault.{first_failed}
use Rattle.mp4_frag.specs.words.FragmentTests.{runs_tests}
use Rattle.mp4_frag.proofs.RunsPassed.{all_children, seen_run, run_first, runs_first, runs_sound, runs_ended}
use Rattle.mp4_frag.proofs.check.check_runs.Goals as goal

pub loop-child-preserved-then-eq : goal.loop-child-preserved-then-eq
loop-child-preserved-then-eq g c =
    let i = c.loop-child.invariant in
    let r = c.in-Ok.ensures in (
      tt,
      tt,
      search rules,
      r.passed,
      (λ n big base. r.bound n big base (i.4 n big base)),
      seen_run _ _ _ _ _ _ (box_seen c.in-Some.child) _ _ _ _ _ _ _ _ _ _ _ i.5 c.in-Some.ensures.steps (rw c.kind-in-loop-child.ensures at (sym c.if-eq.ensures)) (rw c.payload-then-eq.ensures at r.run.run) r.run.count r.run.duration r.run.bytes r.run.taken
          (rw c.payload-then-eq.ensures at r.exact.names),
      runs_cost_run _ _ _ (box_seen c.in-Some.child) _ _ _ _ _ i.6 c.in-Some.ensures.steps (rw c.kind-in-loop-child.ensures at (sym c.if-eq.ensures)) (let more = r.counted in omega (arith, more)),
    )

pub returns-clause-runs : goal.returns-clause-runs
returns-clause-runs g c =
    let same = c.into_iter-child-iterator.ensures.into_iter_gives ∙ all_children (box_seen c.args.traf) _ _ _ _ c.payload.ensures c.payload_offset.ensures c.in_ok-child-items.ensures.tiles in
    let ended = runs_ended _ _ _ _ _ _ _ _ _ _ _ _ c.loop-child.invariant.5 c.in-None.ensures.steps.0 same in
    record {
      sound = runs_sound _ _ _ _ _ _ _ _ _ _ _ _ c.loop-child.invariant.5 c.in-None.ensures.steps.0 same;
      end = ended.0;
      count = ended.1;
      lasting = ended.2;
      filling = ended.3;
    }

pub returns-clause-counted : goal.returns-clause-counted
returns-clause-counted g c =
    let all = all_children (box_seen c.args.traf) _ _ _ _ c.payload.ensures c.payload_offset.ensures c.in_ok-child-items.ensures.tiles in
    runs_cost_said _ _ _ _ _ _ c.loop-child.invariant.6 c.in-None.ensures.steps.0 (c.into_iter-child-iterator.ensures.into_iter_gives ∙ all)

pub returns-clause-within : goal.returns-clause-within
returns-clause-within g c = runs_cost_ended _ _ _ _ _ _ _ _ _ _ c.loop-child.invariant.6 c.into_iter-child-iterator.ensures.into_iter_gives c.in_ok-child-items.ensures.tiles c.payload.ensures

pub returns-clause-work : goal.returns-clause-work
returns-clause-work g c = runs_work_ended _ _ _ _ _ _ _ _ _ _ _ _ c.loop-child.invariant.6 c.into_iter-child-iterator.ensures.into_iter_gives c.in_ok-child-items.ensures.tiles c.payload.ensures c.loop-child.invariant.2

pub returns-in-Err-clause-work : goal.returns-in-Err-clause-work
returns-in-Err-clause-work g c =
    runs_cost_fault _ _ _ _ (box_seen c.in-Some.child) _ _ _ _ _ _ _ _ _ _ c.loop-child.invariant.6 c.in-Some.ensures.steps c.into_iter-child-iterator.ensures.into_iter_gives c.in_ok-child-items.ensures.tiles c.payload.ensures c.loop-child.invariant.2
    (let most = c.in-Err.ensures.work in omega (arith, most))

-- ---- the first fault

pub returns-in-Err-clause-exact : goal.returns-in-Err-clause-exact
returns-in-Err-clause-exact g c = λ _.
    let all = all_children (box_seen c.args.traf) _ _ _ _ c.payload.ensures c.payload_offset.ensures c.in_ok-child-items.ensures.tiles in
    record {
      names = rw c.fault.ensures (subst (λ (boxes : List Box). first_failed (runs_tests c.args.judged c.args.judged.base c.args.room.now (of_kind (codes "trun") boxes)) ≡ Some (fault_of c.in-Err.kind (box_seen c.in-Some.child))) (c.into_iter-child-iterator.ensures.into_iter_gives ∙ all)
          (run_first _ _ _ _ _ _ (box_seen c.in-Some.child) _ _ _ _ _ _ c.in-Err.kind c.loop-child.invariant.5 c.in-Some.ensures.steps (rw c.kind-in-loop-child.ensures at (sym c.if-eq.ensures)) (rw c.payload-then-eq.ensures at c.in-Err.ensures.exact.names)));
    }

pub returns-clause-exact : goal.returns-clause-exact
returns-clause-exact g c = λ _.
    let same = c.into_iter-child-iterator.ensures.into_iter_gives ∙ all_children (box_seen c.args.traf) _ _ _ _ c.payload.ensures c.payload_offset.ensures c.in_ok-child-items.ensures.tiles in
    record { names = runs_first _ _ _ _ _ _ _ _ _ _ _ _ c.loop-child.invariant.5 c.in-None.ensures.steps.0 same }
