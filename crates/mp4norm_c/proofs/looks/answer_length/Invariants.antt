use Rattle.mp4norm_c.proofs.looks.answer_length.Given as goal

abbrev pub ghosts-counted-L-Ledger : goal.ghosts-counted-L-Ledger
ghosts-counted-L-Ledger a = record { name = a.steps.name; parts = a.steps.parts }

abbrev pub ghosts-counted-M-Ledger : goal.ghosts-counted-M-Ledger
ghosts-counted-M-Ledger a = record { name = a.looks.name; parts = a.looks.parts }
