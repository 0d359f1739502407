use Rattle.mp4_plan.proofs.OneSpelling.{columns_are_spelled_once}
use Rattle.mp4_plan.proofs.laws.columns_are_spelled_once.Goals as goal

pub returns : goal.returns
returns c = columns_are_spelled_once
