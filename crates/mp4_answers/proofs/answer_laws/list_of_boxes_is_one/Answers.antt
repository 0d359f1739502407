use Rattle.mp4_answers.proofs.OneTexts.{list_of_boxes_is_one}
use Rattle.mp4_answers.proofs.answer_laws.list_of_boxes_is_one.Goals as goal

pub returns : goal.returns
returns c = list_of_boxes_is_one
