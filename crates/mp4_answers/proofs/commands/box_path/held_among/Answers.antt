use Rattle.mp4_boxes.specs.words.View.{box_seen}
use Rattle.mp4_answers.proofs.WaysTo.{passed_more}
use Rattle.mp4_answers.proofs.commands.box_path.held_among.Goals as goal

pub loop-child-preserved : goal.loop-child-preserved
loop-child-preserved c =
    (tt, tt, passed_more c.into_iter-child-iterator.result c.loop-child.child-iterator c.next.new.self (box_seen c.in-Some.child) c.loop-child.invariant.2 c.in-Some.ensures.steps)
