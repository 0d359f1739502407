use Rattle.mp4_answers.proofs.OneTexts.{judged_texts_are_one}
use Rattle.mp4_answers.proofs.answer_laws.judged_texts_are_one.Goals as goal

pub returns : goal.returns
returns c = judged_texts_are_one
