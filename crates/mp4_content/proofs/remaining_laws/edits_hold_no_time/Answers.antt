use Rattle.mp4_content.proofs.RemainingValid.{edits_hold_no_time}
use Rattle.mp4_content.proofs.remaining_laws.edits_hold_no_time.Goals as goal

pub returns : goal.returns
returns c = edits_hold_no_time
