use Rattle.mp4_content.proofs.TooLong.{edits_may_hold_time}
use Rattle.mp4_content.proofs.reduced_laws.edits_may_hold_time.Goals as goal

pub returns : goal.returns
returns c = edits_may_hold_time
