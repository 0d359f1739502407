use Rattle.mp4_present.proofs.DenotedOpens.{denoted_opens}
use Rattle.mp4_present.proofs.judge_laws.denoted_opens.Goals as goal

pub returns : goal.returns
returns c = denoted_opens
