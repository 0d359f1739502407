use Rattle.mp4norm_c.proofs.looks.answer_sum.Given as goal

abbrev pub ghosts-summed-L-Ledger : goal.ghosts-summed-L-Ledger
ghosts-summed-L-Ledger a = record { name = a.steps.name; parts = a.steps.parts }

abbrev pub ghosts-summed-M-Ledger : goal.ghosts-summed-M-Ledger
ghosts-summed-M-Ledger a = record { name = a.looks.name; parts = a.looks.parts }
