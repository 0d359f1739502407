use Rattle.mp4_content.proofs.TimescalesEdits.{edits_hold_no_scaled_time}
use Rattle.mp4_content.proofs.timescales_laws.edits_hold_no_scaled_time.Goals as goal

pub returns : goal.returns
returns c = edits_hold_no_scaled_time
