use Rattle.mp4_answers.proofs.ToldFaults.{untold_is_judged}
use Rattle.mp4_answers.proofs.answer_laws.untold_is_judged.Goals as goal

pub returns : goal.returns
returns c = untold_is_judged
