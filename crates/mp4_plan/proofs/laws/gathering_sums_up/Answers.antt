use Rattle.mp4_plan.proofs.Gatherings as lemmas
use Rattle.mp4_plan.proofs.laws.gathering_sums_up.Goals as goal

pub returns : goal.returns
returns c = lemmas.gathering_sums_up
