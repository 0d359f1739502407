use Rattle.mp4_boxes.proofs.ChildrenJudged.{child_fault_is}
use Rattle.mp4_boxes.proofs.laws.judged_fault_stands.Goals as goal

pub returns : goal.returns
returns c = child_fault_is
