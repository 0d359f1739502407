use Rattle.std.proofs.Common.{◌≡◌, ◌≤◌, ◌∙◌, sym, subst, to_z, of_z, rules, arith}
use Rattle.std.specs.Int.{w128}
use Rattle.mp4_boxes.specs.format.Box.{Tiles, box_container}
use Rattle.mp4_boxes.specs.words.View.{box_seen}
use Rattle.mp4_frag.proofs.FrontPassed.{front_other, front_traf, stands_here}
use Rattle.mp4_frag.proofs.HeadsFound.{holds_boxes}
use Rattle.mp4_frag.proofs.Costs.{moof_cost_traf, moof_cost_said, moof_cost_ended, moof_cost_fault}
use Rattle.mp4_frag.proofs.CheckLooks.{looked_traf, looked_one, looked_each, looked_ended, looked_fault}
use Rattle.mp4_frag.proofs.MoofPassed.{moof_traf, moof_ended, moves_traf, moves_first, moves_none, moves_ended}
use Rattle.mp4_frag.proofs.OwnNoted.{notes_other, notes_traf, notes_ended}
use Rattle.mp4_frag.proofs.check.check_trafs.Goals as goal

pub loop-child-preserved : goal.loop-child-preserved
loop-child-preserved g c =
    let i = c.loop-child.invariant in
    let other = rw c.kind.ensures at (sym c.if-eq.ensures) in (
      tt,
      tt,
      i.2,
      i.3,
      search rules,
      search rules,
      search rules,
      i.7,
      search rules,
      i.9,
      notes_other _ _ _ _ _ (box_seen c.in-Some.child) _ _ _ _ i.10 c.in-Some.ensures.steps other,
      i.11,
      i.12,
      front_other _ _ _ _ _ _ _ (box_seen c.in-Some.child) _ _ _ i.13 c.in-Some.ensures.steps other,
    )

pub loop-child-preserved-then-eq : goal.loop-child-preserved-then-eq
loop-child-preserved-then-eq g c =
    let i = c.loop-child.invariant in
    let r = c.in-Ok.ensures in
    let ends = c.in-Ok.passed.ends in
    let kept : to_z w128 (of_z w128 ends) ≡ ends = search rules in
    let room = i.2 in
    let less = r.passed.1.few in
    let fits : c.check_traf.new.room ≤ c.args.room.now = omega arith in
    let is_traf = rw c.kind.ensures at (sym c.if-eq.ensures) in
    let there = c.offset-then-eq.ensures in
    let sound = rw there at r.passed.0.sound in
    let noted = c.note_traf.ensures in (
      tt,
      tt,
      fits,
      r.passed.1.each,
      rw kept (moof_traf c.args.all.file_len _ _ _ _ _ (box_seen c.in-Some.child) _ ends _ _ i.4 c.in-Some.ensures.steps is_traf r.passed.0.holds sound r.passed.0.bound r.passed.1.same),
      rw kept (moves_traf c.args.all.file_len _ _ _ _ _ _ (box_seen c.in-Some.child) _ ends _ _ _ _ i.5 c.in-Some.ensures.steps is_traf r.passed.0.holds sound (rw there at r.passed.0.moved) (rw there at r.exact.names)),
      moof_cost_traf _ _ _ (box_seen c.in-Some.child) _ _ _ _ _ _ i.6 c.in-Some.ensures.steps is_traf (let t = r.work.cost in omega (arith, t)) (let t = r.work.within in omega (arith, t)),
      r.stays ∙ i.7,
      looked_traf _ _ _ (box_seen c.in-Some.child) _ _ _ _ i.8 c.in-Some.ensures.steps is_traf (let t = r.looks.some in let k = c.tick.ensures.looks in omega (arith, t, k)) (let t = rw i.9 at r.looks.most in let k = c.tick.ensures.looks in omega (arith, t, k)),
      r.many ∙ i.9,
      rw kept (notes_traf c.args.all.file_len _ _ _ _ _ (box_seen c.in-Some.child) _ ends _ _ _ _ _ c.in-Ok.passed i.10 c.in-Some.ensures.steps is_traf i.4.same sound (rw there at r.own) r.stays noted.noted),
      λ ids knows. noted.knows ids (i.11 ids knows),
      λ quiet. noted.silent (i.12 quiet),
      rw kept (front_traf _ _ _ _ _ _ _ (box_seen c.in-Some.child) _ ends _ _ _ _ i.13 c.in-Some.ensures.steps is_traf r.passed.0.holds i.4.same sound (rw there at r.passed.0.moved)),
    )

pub returns-clause-passed : goal.returns-clause-passed
returns-clause-passed g c =
    let all = holds_boxes (box_seen c.args.all.moof) _ c.requires.boxes in
    let i = c.loop-child.invariant in
    let left = c.in-None.ensures.steps.0 in
    let same = c.into_iter-child-iterator.ensures.into_iter_gives ∙ all in
    record {
      sound = moof_ended _ _ _ _ _ _ _ _ i.4 left same;
      moved = moves_ended _ _ _ _ _ _ _ _ _ _ i.5 left same;
      kept = search rules;
    }

pub returns-clause-work : goal.returns-clause-work
returns-clause-work g c =
    let all = holds_boxes (box_seen c.args.all.moof) _ c.requires.boxes in
    let most = moof_cost_ended _ _ _ (box_seen c.args.all.moof) _ _ _ _ c.loop-child.invariant.6 c.into_iter-child-iterator.ensures.into_iter_gives c.requires.boxes in
    record { cost = moof_cost_said _ _ (box_seen c.args.all.moof) _ _ _ _ c.loop-child.invariant.6 c.in-None.ensures.steps.0 (c.into_iter-child-iterator.ensures.into_iter_gives ∙ all); within = most; most = omega (arith, most) }

pub returns-clause-looks : goal.returns-clause-looks
returns-clause-looks g c =
    let all = holds_boxes (box_seen c.args.all.moof) _ c.requires.boxes in
    let same = c.into_iter-child-iterator.ensures.into_iter_gives ∙ all in
    let h = c.loop-child.invariant.8 in
    record {
      some = looked_one _ _ (box_seen c.args.all.moof) _ _ _ h c.in-None.ensures.steps.0 same;
      each = looked_each _ _ (box_seen c.args.all.moof) _ _ _ h same;
      most = looked_ended _ _ _ (box_seen c.args.all.moof) _ _ _ h c.into_iter-child-iterator.ensures.into_iter_gives c.requires.boxes;
    }

pub returns-in-Err-clause-work : goal.returns-in-Err-clause-work
returns-in-Err-clause-work g c =
    let most = moof_cost_fault _ _ _ _ (box_seen c.in-Some.child) (box_seen c.args.all.moof) _ _ _ _ _ c.loop-child.invariant.6 c.in-Some.ensures.steps c.into_iter-child-iterator.ensures.into_iter_gives c.requires.boxes
    (let t = c.in-Err.ensures.work.most in omega (arith, t)) in
    record { cost = tt; within = tt; most = most }

pub returns-in-Err-clause-looks : goal.returns-in-Err-clause-looks
returns-in-Err-clause-looks g c =
    let most = looked_fault _ _ _ _ (box_seen c.in-Some.child) (box_seen c.args.all.moof) _ _ _ _ c.loop-child.invariant.8 c.in-Some.ensures.steps c.into_iter-child-iterator.ensures.into_iter_gives c.requires.boxes
    (let t = rw c.loop-child.invariant.9 at c.in-Err.ensures.looks.most in let k = c.tick.ensures.looks in omega (arith, t, k)) in
    record { some = tt; each = tt; most = most }

pub returns-clause-own : goal.returns-clause-own
returns-clause-own g c =
    let all = holds_boxes (box_seen c.args.all.moof) _ c.requires.boxes in record {
      each = c.loop-child.invariant.10.each;
      all = λ trexes defaults apart. notes_ended trexes (box_seen c.args.all.moof) c.args.tracks.now _ _ _ _ _ _ c.loop-child.invariant.10 c.in-None.ensures.steps.0 (c.into_iter-child-iterator.ensures.into_iter_gives ∙ all) defaults apart;
    }

-- ---- what is told

pub returns-in-Err-clause-told : goal.returns-in-Err-clause-told
returns-in-Err-clause-told g c =
    let moof = box_seen c.args.all.moof in
    let traf = box_seen c.in-Some.child in
    let tiles = subst (Tiles (box_container moof)) (sym c.into_iter-child-iterator.ensures.into_iter_gives) c.requires.boxes in
    (traf, c.loop-child.tracks, stands_here c.args.all.file_len moof c.args.tracks.now c.args.room.now _ _ _ traf _ c.loop-child.tracks _ c.loop-child.invariant.13 c.in-Some.ensures.steps tiles, rw c.in-Err.ensures.stays at c.refuse.ensures.tells)

-- ---- the first fault

pub returns-in-Err-clause-exact : goal.returns-in-Err-clause-exact
returns-in-Err-clause-exact g c =
    let all = holds_boxes (box_seen c.args.all.moof) _ c.requires.boxes in
    record {
      names = (moves_first c.args.all.file_len _ _ _ _ _ _ _ (box_seen c.in-Some.child) _ _ _ c.in-Err.fault c.loop-child.invariant.5 c.in-Some.ensures.steps (rw c.kind.ensures at (sym c.if-eq.ensures))
          (c.into_iter-child-iterator.ensures.into_iter_gives ∙ all) (rw c.offset-then-eq.ensures at c.in-Err.ensures.exact.names));
    }

pub returns-clause-exact : goal.returns-clause-exact
returns-clause-exact g c =
    let all = holds_boxes (box_seen c.args.all.moof) _ c.requires.boxes in
    record { names = moves_none _ _ _ _ _ _ _ _ _ _ c.loop-child.invariant.5 c.in-None.ensures.steps.0 (c.into_iter-child-iterator.ensures.into_iter_gives ∙ all) }
