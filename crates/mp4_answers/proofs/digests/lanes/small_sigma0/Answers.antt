use Rattle.std.proofs.Common.{ℕ, ◌/◌, ◌^◌, slice_index, bit_xor, ap, arith}
use Rattle.mp4_answers.proofs.LaneLaws.{lane_lt}
use Rattle.mp4_answers.proofs.Rotations.{rotated_two}
use Rattle.mp4_answers.proofs.digests.lanes.small_sigma0.Goals as goal

pub returns : goal.returns
returns c l lt =
    rw (c.xor-2.ensures l lt, c.rotated-2.ensures l lt, c.xor.ensures l lt, c.rotated.ensures l lt, c.shifted.ensures l lt)
    (ap (λ (y : ℕ). bit_xor y (slice_index c.args.x l / 2 ^ 3)) (rotated_two 32 (slice_index c.args.x l) 7 11 (omega arith) (lane_lt c.args.x l c.fits-x.1)))
