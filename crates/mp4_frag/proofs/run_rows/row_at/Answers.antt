use Rattle.mp4_frag.proofs.ColumnValues.{row_read}
use Rattle.mp4_frag.proofs.run_rows.row_at.Goals as goal

pub returns : goal.returns
returns c =
    row_read c.args.bits c.args.place _ _ _ c.args.bytes.now _ _ _ _ _ _ _ _
    c.has-has_duration.ensures c.has-has_size.ensures c.has-has_flags.ensures c.has-has_offset.ensures
    c.behind-size.ensures c.behind-flags.ensures c.behind-offset.ensures
    c.number_at.ensures c.number_at-2.ensures c.number_at-3.ensures c.number_at-4.ensures
