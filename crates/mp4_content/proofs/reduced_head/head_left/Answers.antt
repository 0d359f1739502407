use Rattle.std.proofs.Common.{ap, ◌∙◌}
use Rattle.mp4_head.specs.words.Seen.{tracks_seen}
use Rattle.mp4_content.specs.format.Reduced.{number_heads}
use Rattle.mp4_content.specs.words.Divided.{remaining_heads}
use Rattle.mp4_content.specs.words.PayloadsLeft.{keeping_payloads}
use Rattle.mp4_content.proofs.HeadLess.{both_left}
use Rattle.mp4_content.proofs.reduced_head.head_left.Goals as goal

pub returns-clause-tracks : goal.returns-clause-tracks
returns-clause-tracks c =
    let l = c.args.leaving in
    let s = c.args.scales.now in
    c.leave_head.ensures.tracks
    ∙ ap (number_heads l 1) (ap (remaining_heads (keeping_payloads l) s.movie s.tracks.items) c.in_ok-put_payloads_left.ensures.tracks ∙ both_left l s.movie s.tracks.items (tracks_seen c.args.head))
