use Rattle.mp4_frag.proofs.ColumnValues.{tfhd_read}
use Rattle.mp4_frag.proofs.heads.head_of.Goals as goal

pub returns-clause-values : goal.returns-clause-values
returns-clause-values c =
    tfhd_read c.args.bits _ _ _ _ c.args.payload.now _ _ _ _ _ _ _ _ _ _
    c.has-has_base.ensures c.has-has_description.ensures c.has-has_duration.ensures c.has-has_size.ensures c.has-has_flags.ensures
    c.behind-description.ensures c.behind-duration.ensures c.behind-size.ensures c.behind-flags.ensures
    c.wide_at.ensures c.number_at.ensures c.number_at-2.ensures c.number_at-3.ensures c.number_at-4.ensures
