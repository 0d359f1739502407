use Rattle.mp4_answers.proofs.StepsTaken.{steps_by_tracks}
use Rattle.mp4_answers.proofs.answer_laws.steps_by_tracks.Goals as goal

pub returns : goal.returns
returns c = steps_by_tracks
