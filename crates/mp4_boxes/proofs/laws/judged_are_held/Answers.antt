use Rattle.mp4_boxes.proofs.ChildrenJudged.{children_are, held_are}
use Rattle.mp4_boxes.proofs.laws.judged_are_held.Goals as goal

pub returns : goal.returns
returns c = λ rule container boxes. (children_are rule container boxes, held_are rule container boxes)
