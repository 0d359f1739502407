use Rattle.std.proofs.Common.{ap, ◌∙◌}
use Rattle.mp4_head.specs.words.Seen.{tracks_seen}
use Rattle.mp4_content.specs.words.Divided.{divided_heads}
use Rattle.mp4_content.proofs.HeadLess.{divided_left}
use Rattle.mp4_content.proofs.reduced_head.leave_head.Goals as goal

pub returns-clause-tracks : goal.returns-clause-tracks
returns-clause-tracks c =
    let s = c.args.scales.now in
    c.divide_head.ensures.tracks ∙ ap (divided_heads c.args.leaving s.movie s.tracks.items 0) c.reduce_head.ensures.tracks ∙ divided_left c.args.leaving s.movie 1 s.tracks.items (tracks_seen c.args.head.now)
