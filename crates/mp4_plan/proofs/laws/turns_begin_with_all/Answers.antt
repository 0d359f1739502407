use Rattle.mp4_plan.proofs.FragmentsLeft as lemmas
use Rattle.mp4_plan.proofs.laws.turns_begin_with_all.Goals as goal

pub returns : goal.returns
returns c = lemmas.turns_begin_with_all
