use Rattle.std.proofs.Common.{w32}
use Rattle.mp4_answers.proofs.LaneLaws.{lane_lt}
use Rattle.mp4_answers.proofs.ShortForms.{ch_short}
use Rattle.mp4_answers.proofs.digests.lanes.ch.Goals as goal

pub returns : goal.returns
returns c l lt =
    rw (c.xor-2.ensures l lt, c.and.ensures l lt, c.xor.ensures l lt)
    (ch_short w32 _ _ _ (lane_lt c.args.x l c.fits-x.1) (lane_lt c.args.y l c.fits-y.1) (lane_lt c.args.z l c.fits-z.1))
