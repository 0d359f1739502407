use Rattle.mp4_answers.proofs.LaneLaws.{of_one}
use Rattle.sha2.specs.Sha256.{add32}
use Rattle.mp4_answers.proofs.digests.lanes.add_to_all.Goals as goal

pub returns : goal.returns
returns c = of_one add32 c.args.x c.args.y c.fits-x.0
