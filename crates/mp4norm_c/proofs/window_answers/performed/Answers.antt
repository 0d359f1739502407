use Rattle.mp4norm_c.proofs.Answered.{same_room}
use Rattle.mp4norm_c.proofs.window_answers.performed.Goals as goal

pub returns-clause-same : goal.returns-clause-same
returns-clause-same g c = same_room c.args.job c.args.file.now c.args.sink.now c.perform.new.sink c.perform.result (rw c.new-store.ensures at c.perform.ensures.answer)

pub returns-clause-answer : goal.returns-clause-answer
returns-clause-answer g c = rw c.new-store.ensures at c.perform.ensures.answer
