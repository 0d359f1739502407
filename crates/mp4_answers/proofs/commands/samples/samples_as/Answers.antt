use Rattle.mp4_answers.proofs.commands.samples.samples_as.Goals as goal

pub returns : goal.returns
returns g c = record { store = c.perform_blank.ensures.store; answer = c.perform_blank.ensures.answer }
