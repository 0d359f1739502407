use Rattle.mp4_answers.proofs.commands.check.check.Given as goal

abbrev pub ghosts-check_blank-L-Ledger : goal.ghosts-check_blank-L-Ledger
ghosts-check_blank-L-Ledger g a = record { name = a.steps.name; parts = a.steps.parts }

abbrev pub ghosts-check_blank-M-Ledger : goal.ghosts-check_blank-M-Ledger
ghosts-check_blank-M-Ledger g a = record { name = a.looks.name; parts = a.looks.parts }
