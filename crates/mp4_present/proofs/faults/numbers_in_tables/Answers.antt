use Rattle.mp4_present.proofs.faults.numbers_in_tables.Goals as goal

pub returns-in-CountMismatch : goal.returns-in-CountMismatch
returns-in-CountMismatch c = c.counts_in_tables.ensures c.args.file_len
