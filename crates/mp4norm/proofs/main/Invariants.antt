use Rattle.mp4norm.proofs.main.Given as goal

abbrev pub ghosts-act-L-Ledger : goal.ghosts-act-L-Ledger
ghosts-act-L-Ledger a = record { name = a.steps.name; parts = a.steps.parts }

abbrev pub ghosts-act-M-Ledger : goal.ghosts-act-M-Ledger
ghosts-act-M-Ledger a = record { name = a.looks.name; parts = a.looks.parts }
