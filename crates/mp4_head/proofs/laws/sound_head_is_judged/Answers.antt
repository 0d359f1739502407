use Rattle.mp4_head.proofs.JudgedTrees.{sound_judged}
use Rattle.mp4_head.proofs.laws.sound_head_is_judged.Goals as goal

pub returns : goal.returns
returns c = sound_judged
