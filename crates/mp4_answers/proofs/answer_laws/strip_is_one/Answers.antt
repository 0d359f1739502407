use Rattle.mp4_answers.proofs.OneTexts.{strip_is_one}
use Rattle.mp4_answers.proofs.answer_laws.strip_is_one.Goals as goal

pub returns : goal.returns
returns c = strip_is_one
