use Rattle.std.proofs.Common.{List, subst}
use Rattle.std.specs.Prelude.{Contains}
use Rattle.mp4_boxes.specs.format.Box.{Box}
use Rattle.mp4_boxes.specs.words.View.{box_seen}
use Rattle.mp4_present.proofs.FaultGaps.{in_hand, later}
use Rattle.mp4_present.proofs.faults.gaps.child_of.Goals as goal

pub loop-child-init : goal.loop-child-init
loop-child-init c = (tt, tt, λ b h. h)

pub loop-child-preserved : goal.loop-child-preserved
loop-child-preserved c = (tt, tt, λ b h. c.loop-child.invariant.2 b (later _ _ _ b c.in-Some.ensures.steps h))

pub returns-then-eq-clause-child : goal.returns-then-eq-clause-child
returns-then-eq-clause-child c =
    let there = c.loop-child.invariant.2 (box_seen c.in-Some.child) (in_hand _ _ _ c.in-Some.ensures.steps) in
    let here = rw (c.payload.ensures, c.payload_offset.ensures, c.kind.ensures) at c.in-Ok.ensures.tiles in
    (c.in-Ok.boxes, record { front = here.front; full = here.full }, subst (λ (xs : List Box). Contains xs (box_seen c.in-Some.child)) c.into_iter-child-iterator.ensures.into_iter_gives there)
