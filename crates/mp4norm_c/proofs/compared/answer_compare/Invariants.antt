use Rattle.mp4norm_c.proofs.compared.answer_compare.Given as goal

abbrev pub ghosts-compared-L-Ledger : goal.ghosts-compared-L-Ledger
ghosts-compared-L-Ledger a = record { name = a.counted.0.name; parts = a.counted.0.parts }

abbrev pub ghosts-compared-M-Ledger : goal.ghosts-compared-M-Ledger
ghosts-compared-M-Ledger a = record { name = a.counted.1.name; parts = a.counted.1.parts }
