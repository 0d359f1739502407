use Rattle.mp4_frag.proofs.RowsLeft.{row_in_hand}
use Rattle.mp4_frag.proofs.opened_runs.row_here.Goals as goal

pub returns : goal.returns
returns c = row_in_hand c.args.payload.now c.args.run c.row_at.result c.requires.some c.row_at.ensures
