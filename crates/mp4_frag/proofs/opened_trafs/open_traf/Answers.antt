use Rattle.std.proofs.Common.{◌≡◌, ◌∙◌, sym, ap, rules, arith}
use Rattle.mp4_tables.specs.words.Keys.{keys_seen}
use Rattle.mp4_frag.specs.words.Walks.{are_named, boxes_from, reached}
use Rattle.mp4_frag.specs.declared.places.TrafPlace.{TrafPlace}
use Rattle.mp4_frag.proofs.BoxPlaces.{box_end}
use Rattle.mp4_frag.proofs.Comings.{leaf_other, leaves_done, named_on, named_still, named_done}
use Rattle.mp4_frag.proofs.WalkWork.{groups_fall}
use Rattle.mp4_frag.proofs.opened_trafs.open_traf.Goals as goal

pub loop-at-preserved : goal.loop-at-preserved
loop-at-preserved c =
    let i = c.loop-at.invariant in
    let child = c.in-Some.child in
    let o = c.in-Some.ensures.order in
    let there = c.in-Some.ensures.some in
    record {
      within = o.2;
      indexes = i.indexes;
      work = omega (arith, i.work, groups_fall c.args.payload.now c.loop-at.at child.inside child.end child.kind.0 there);
      same = i.same;
      on = i.on;
      named = named_still c.args.payload.now c.args.id c.loop-at.is_named c.loop-at.at child.inside child.end child.kind.0 there (sym c.if-eq.ensures) ∙ i.named;
      whole = leaf_other c.args.payload.now c.args.trex (keys_seen c.args.keys) (reached c.args.payload.now c.loop-at.place) c.loop-at.at child.inside child.end child.kind.0 there (sym c.if-eq.ensures) (sym c.if-eq-2.ensures) ∙ i.whole;
    }

pub loop-at-preserved-then-eq : goal.loop-at-preserved-then-eq
loop-at-preserved-then-eq c =
    let i = c.loop-at.invariant in
    let child = c.in-Some.child in
    let o = c.in-Some.ensures.order in
    let there = c.in-Some.ensures.some in
    let passed : c.open_head-is_named.new.place.passed ≡ c.loop-at.place.passed = ap (λ (p : TrafPlace). p.passed) c.open_head-is_named.ensures.same in
    record {
      within = o.2;
      indexes = search rules;
      work = omega (arith, i.work, passed, groups_fall c.args.payload.now c.loop-at.at child.inside child.end child.kind.0 there);
      same = search rules;
      on = search rules;
      named = ap (λ v. are_named c.args.id v (boxes_from c.args.payload.now child.end)) c.open_head-is_named.ensures.named ∙ named_on c.args.payload.now c.args.id c.loop-at.is_named c.loop-at.at child.inside child.end child.kind.0 there (sym c.if-eq.ensures) ∙ i.named;
      whole = search rules;
    }

pub returns-clause-named : goal.returns-clause-named
returns-clause-named c =
    named_done c.args.payload.now c.args.id c.loop-at.is_named c.loop-at.at (box_end c.args.payload.now c.loop-at.at _ c.loop-at-test.false) ∙ c.loop-at.invariant.named

pub returns-clause-reached : goal.returns-clause-reached
returns-clause-reached c =
    leaves_done c.args.payload.now c.args.trex (keys_seen c.args.keys) (reached c.args.payload.now c.loop-at.place) c.loop-at.at (box_end c.args.payload.now c.loop-at.at _ c.loop-at-test.false) ∙ c.loop-at.invariant.whole
