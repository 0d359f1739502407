use Rattle.mp4_frag.proofs.ColumnValues.{row_read}
use Rattle.mp4_frag.proofs.run_rows.said_at.Goals as goal

pub returns : goal.returns
returns c = record {
  row = record { duration = c.number_at.result; size = c.number_at-2.result; flags = c.number_at-3.result; offset = c.number_at-4.result };
  is = row_read c.args.bits c.args.place _ _ _ c.args.bytes.now _ _ _ _ _ _ _ _
      c.has-has_duration.ensures c.has-has_size.ensures c.has-has_flags.ensures c.has-has_offset.ensures
      c.behind-size_place.ensures c.behind-flags_place.ensures c.behind-offset_place.ensures
      c.number_at.ensures c.number_at-2.ensures c.number_at-3.ensures c.number_at-4.ensures;
  duration = c.unwrap_or-duration.ensures;
  size = c.unwrap_or-size.ensures;
  flags = c.unwrap_or-flags.ensures;
  offset = c.unwrap_or-offset.ensures;
}
