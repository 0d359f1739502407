use Rattle.std.proofs.Common.{◌/◌, ◌^◌}
use Rattle.mp4_answers.proofs.LaneLaws.{of_one}
use Rattle.mp4_answers.proofs.digests.lanes.shifted.Goals as goal

pub returns : goal.returns
returns c = of_one (λ x y. x / 2 ^ y) c.args.x c.args.by c.fits-x.0
