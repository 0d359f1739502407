use Rattle.std.proofs.Common.{sym, ◌∙◌}
use Rattle.mp4_boxes.specs.words.View.{box_seen}
use Rattle.mp4_tables.specs.words.Leaves.{boxes_of}
use Rattle.mp4_tables.proofs.LeafLists.{one_passed}
use Rattle.mp4_tables.proofs.leaves.first_of.Goals as goal

pub loop-child-preserved : goal.loop-child-preserved
loop-child-preserved c = (
  tt,
  tt,
  one_passed c.args.kind.0 (boxes_of (box_seen c.args.stbl)) c.loop-child.child-iterator c.next.new.self (box_seen c.in-Some.child) c.loop-child.invariant.2 c.in-Some.ensures.steps
      (rw c.kind.ensures at (sym c.eq.ensures ∙ c.if-eq.false)),
)
