use Rattle.mp4norm_c.proofs.window_answers.window_of.Given as goal

abbrev pub ghosts-performed-L-Ledger : goal.ghosts-performed-L-Ledger
ghosts-performed-L-Ledger a = record { name = a.steps.name; parts = a.steps.parts }

abbrev pub ghosts-performed-M-Ledger : goal.ghosts-performed-M-Ledger
ghosts-performed-M-Ledger a = record { name = a.looks.name; parts = a.looks.parts }
