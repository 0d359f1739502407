use Rattle.mp4_answers.proofs.commands.samples.samples_as.Given as goal

abbrev pub ghosts-perform_blank-L-Ledger : goal.ghosts-perform_blank-L-Ledger
ghosts-perform_blank-L-Ledger g a = record { name = a.steps.name; parts = a.steps.parts }

abbrev pub ghosts-perform_blank-M-Ledger : goal.ghosts-perform_blank-M-Ledger
ghosts-perform_blank-M-Ledger g a = record { name = a.looks.name; parts = a.looks.parts }
