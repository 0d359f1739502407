use Rattle.mp4_head.proofs.JudgedSound.{judged_sound}
use Rattle.mp4_head.proofs.laws.judged_head_is_sound.Goals as goal

pub returns : goal.returns
returns c = judged_sound
