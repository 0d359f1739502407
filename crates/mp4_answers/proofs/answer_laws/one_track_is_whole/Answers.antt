use Rattle.mp4_answers.proofs.Alone.{one_is_whole}
use Rattle.mp4_answers.proofs.answer_laws.one_track_is_whole.Goals as goal

pub returns : goal.returns
returns c = one_is_whole
