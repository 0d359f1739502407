use Rattle.mp4_frag.proofs.RunRows.{row_more, offset_more}
use Rattle.mp4_frag.proofs.sample_runs.row_of.Goals as goal

pub returns-clause-row : goal.returns-clause-row
returns-clause-row c = row_more c.args.payload.now c.args.run c.args.k c.row_at.result c.requires.inside (rw c.row_size.ensures.is at c.row_at.ensures)

pub returns-clause-offset : goal.returns-clause-offset
returns-clause-offset c = offset_more c.args.payload.now c.args.run c.args.k c.row_at.result c.requires.inside (rw c.row_size.ensures.is at c.row_at.ensures)
