use Rattle.mp4_present.proofs.OpenedDenotes.{opened_denotes}
use Rattle.mp4_present.proofs.judge_laws.opened_denotes.Goals as goal

pub returns : goal.returns
returns c = opened_denotes
