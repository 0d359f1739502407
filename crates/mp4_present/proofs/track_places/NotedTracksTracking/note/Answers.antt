use Rattle.std.proofs.Common.{◌≡◌, ◌<◌, ◌≤◌, ◌∙◌, ap, length, rules}
use Rattle.mp4_present.specs.words.OwnTrafs.{own_seen}
use Rattle.mp4_present.specs.declared.own_trafs.OwnTrafs.{OwnTrafs}
use Rattle.mp4_frag.specs.words.Noted.{noted_at, with_note}
use Rattle.mp4_present.proofs.NotedTracks.{noted_beyond, noted_set, told_more}
use Rattle.mp4_present.proofs.track_places.NotedTracksTracking.note.Goals as goal

pub returns-then-track-len-clause-noted : goal.returns-then-track-len-clause-noted
returns-then-track-len-clause-noted c =
    let beyond : length c.args.self.now.own.items ≤ c.args.track = search rules in
    told_more c.args.self.now.is_refused _ _ (λ owns now. now ≡ noted_at c.args.track c.args.traf owns) (noted_beyond c.args.track c.args.self.now.own.items c.args.traf beyond)

pub returns-clause-noted : goal.returns-clause-noted
returns-clause-noted c =
    let within : c.args.track < length c.args.self.now.own.items = search rules in
    let d = c.index_mut.result.now in
    let seen = c.in-Ok.ensures ∙ ap (λ (o : OwnTrafs). with_note c.args.traf (own_seen o)) c.index_mut.ensures.value in
    told_more c.args.self.now.is_refused _ _ (λ owns now. now ≡ noted_at c.args.track c.args.traf owns) (noted_set c.args.track c.args.self.now.own.items d c.note.new.self c.args.traf within seen)
