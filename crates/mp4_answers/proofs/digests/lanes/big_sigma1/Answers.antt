use Rattle.std.proofs.Common.{slice_index, arith}
use Rattle.mp4_answers.proofs.LaneLaws.{lane_lt}
use Rattle.mp4_answers.proofs.Rotations.{rotated_three}
use Rattle.mp4_answers.proofs.digests.lanes.big_sigma1.Goals as goal

pub returns : goal.returns
returns c l lt =
    rw (c.rotated-3.ensures l lt, c.xor-2.ensures l lt, c.rotated-2.ensures l lt, c.xor.ensures l lt, c.rotated.ensures l lt)
    (rotated_three 32 (slice_index c.args.x l) 6 5 14 (omega arith) (lane_lt c.args.x l c.fits-x.1))
