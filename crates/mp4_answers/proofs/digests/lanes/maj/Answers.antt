use Rattle.std.proofs.Common.{slice_index}
use Rattle.mp4_answers.proofs.ShortForms.{maj_short}
use Rattle.mp4_answers.proofs.digests.lanes.maj.Goals as goal

pub returns : goal.returns
returns c l lt =
    rw (c.xor-3.ensures l lt, c.and.ensures l lt, c.xor.ensures l lt, c.xor-2.ensures l lt)
    (maj_short (slice_index c.args.x l) (slice_index c.args.y l) (slice_index c.args.z l))
