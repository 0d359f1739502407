use Rattle.mp4_tables.proofs.RowLists.{runs_more}
use Rattle.mp4_frag.proofs.groups.row_of.Goals as goal

pub returns : goal.returns
returns c =
    rw (c.u32_at.ensures, c.u32_at-2.ensures) (runs_more c.args.payload.now (record { place = c.args.group.rows; count = c.args.group.count }) c.args.k c.requires.inside)
