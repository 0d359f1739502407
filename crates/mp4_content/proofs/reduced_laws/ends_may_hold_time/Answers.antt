use Rattle.mp4_content.proofs.TooLong.{ends_may_hold_time}
use Rattle.mp4_content.proofs.reduced_laws.ends_may_hold_time.Goals as goal

pub returns : goal.returns
returns c = ends_may_hold_time
