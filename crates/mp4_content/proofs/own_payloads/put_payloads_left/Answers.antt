use Rattle.std.proofs.Common.{rules, ◌≡◌, false}
use Rattle.mp4_head.specs.words.Seen.{track_seen}
use Rattle.mp4_content.specs.words.PayloadsLeft.{leaves_payloads, track_payloads_left}
use Rattle.mp4_content.proofs.OwnPayloads.{changed_to_same, payloads_stay}
use Rattle.mp4_content.proofs.own_payloads.put_payloads_left.Goals as goal

pub returns-else-leaves_payloads-clause-tracks : goal.returns-else-leaves_payloads-clause-tracks
returns-else-leaves_payloads-clause-tracks c =
    let none : leaves_payloads c.args.leaving ≡ false = search rules in
    changed_to_same track_seen (track_payloads_left c.args.leaving) (payloads_stay c.args.leaving none) c.args.head.now.tracks.items
