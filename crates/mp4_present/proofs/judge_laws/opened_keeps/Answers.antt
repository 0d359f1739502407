use Rattle.mp4_present.proofs.OpeningSteps.{opened_of}
use Rattle.mp4_present.proofs.judge_laws.opened_keeps.Goals as goal

pub returns : goal.returns
returns c = opened_of
