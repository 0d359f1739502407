use Rattle.std.proofs.Common.{refl, sym}
use Rattle.sha2.proofs.Schedule256.{rounds_first}
use Rattle.mp4_answers.specs.words.Lanes.{lane}
use Rattle.mp4_answers.proofs.LaneLaws.{slice_index-lane}
use Rattle.mp4_answers.proofs.digests.lanes.first_step.Goals as goal

pub returns : goal.returns
returns c = λ l lt b h window held.
    rounds_first b h (lane l c.args.w.now) (lane l c.args.v) c.args.t _ _ _ c.requires window held refl (sym (slice_index-lane l c.args.w.now c.args.t)) (c.round.ensures l lt)
