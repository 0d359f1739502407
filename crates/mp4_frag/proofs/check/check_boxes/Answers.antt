use Rattle.std.proofs.Common.{◌∙◌, List, subst}
use Rattle.std.specs.Prelude.{codes}
use Rattle.mp4_boxes.specs.format.Box.{Box, box_container}
use Rattle.mp4_boxes.specs.format.Children.{Holds}
use Rattle.mp4_boxes.specs.declared.rule.Rule.TheVariants as rules
use Rattle.mp4_boxes.specs.words.View.{box_seen}
use Rattle.mp4_frag.specs.words.RunsJudged.{children_of}
use Rattle.mp4_boxes.proofs.ChildrenJudged.{held_are}
use Rattle.mp4_frag.proofs.HeadsFound.{last_all, holds_children, one_head, one_time}
use Rattle.mp4_frag.proofs.check.check_boxes.Goals as goal

pub returns-clause-holds : goal.returns-clause-holds
returns-clause-holds c =
    let b = box_seen c.args.traf in
    let h = c.in_ok-child-items.ensures.holds in
    subst (λ (boxes : List Box). Holds rules.TrackFragment (box_container b) boxes) (holds_children rules.TrackFragment b _ h) h

pub returns-clause-head : goal.returns-clause-head
returns-clause-head c =
    let b = box_seen c.args.traf in
    let h = c.in_ok-child-items.ensures.holds in
    let all = holds_children rules.TrackFragment b _ h in
    let held = subst (λ (boxes : List Box). Holds rules.TrackFragment (box_container b) boxes) all h in
    last_all (codes "tfhd") c.into_iter-child-iterator.result c.loop-child.child-iterator (children_of b) _ c.loop-child.invariant.2 c.in-None.ensures.steps.0 (c.into_iter-child-iterator.ensures.into_iter_gives ∙ all) (one_head b (children_of b) held)

pub returns-clause-time : goal.returns-clause-time
returns-clause-time c =
    let b = box_seen c.args.traf in
    let h = c.in_ok-child-items.ensures.holds in
    let all = holds_children rules.TrackFragment b _ h in
    let held = subst (λ (boxes : List Box). Holds rules.TrackFragment (box_container b) boxes) all h in
    last_all (codes "tfdt") c.into_iter-child-iterator.result c.loop-child.child-iterator (children_of b) _ c.loop-child.invariant.3 c.in-None.ensures.steps.0 (c.into_iter-child-iterator.ensures.into_iter_gives ∙ all) (one_time b (children_of b) held)

pub returns-clause-exact : goal.returns-clause-exact
returns-clause-exact c = record { names = held_are rules.TrackFragment (box_container (box_seen c.args.traf)) (children_of (box_seen c.args.traf)) (returns-clause-holds c) }
