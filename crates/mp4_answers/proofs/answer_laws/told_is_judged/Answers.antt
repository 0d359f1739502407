use Rattle.mp4_answers.proofs.ToldFaults.{told_is_judged}
use Rattle.mp4_answers.proofs.answer_laws.told_is_judged.Goals as goal

pub returns : goal.returns
returns c = told_is_judged
