use Rattle.mp4_content.proofs.TooLong.{origins_may_hold_offsets}
use Rattle.mp4_content.proofs.reduced_laws.origins_may_hold_offsets.Goals as goal

pub returns : goal.returns
returns c = origins_may_hold_offsets
