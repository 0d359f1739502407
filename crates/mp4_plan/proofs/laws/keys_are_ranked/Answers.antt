use Rattle.mp4_plan.proofs.KeyOrder.{keys_are_ranked}
use Rattle.mp4_plan.proofs.laws.keys_are_ranked.Goals as goal

pub returns : goal.returns
returns c = keys_are_ranked
