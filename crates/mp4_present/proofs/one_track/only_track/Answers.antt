use Rattle.std.proofs.Common.{Some, sym, ap, ◌∙◌}
use Rattle.std.specs.Prelude.{map}
use Rattle.mp4_head.specs.words.Seen.{head_seen, track_seen}
use Rattle.mp4_head.specs.declared.heads.TrackHead.{TrackHead}
use Rattle.mp4_present.specs.words.HeadsRead.{places_of}
use Rattle.mp4_present.specs.words.OneTrack.{only_head, shown_at}
use Rattle.mp4_present.proofs.ShownAt.{map_shown}
use Rattle.mp4_present.proofs.one_track.only_track.Goals as goal

pub returns-in-Some-clause-seen : goal.returns-in-Some-clause-seen
returns-in-Some-clause-seen c =
    let head = c.args.head in
    let tracks = ap (map track_seen) c.keep_at.ensures ∙ map_shown track_seen (Some c.in-Some.place) head.tracks.items in
    (λ i. record (head_seen head) { tracks = tracks i }) ∙ ap (λ only. only_head only (head_seen head)) (sym c.in-Some.is)

pub returns-in-Some-clause-places : goal.returns-in-Some-clause-places
returns-in-Some-clause-places c =
    let head = c.args.head in
    ap places_of c.keep_at.ensures ∙ map_shown (λ (h : TrackHead). h.offset) (Some c.in-Some.place) head.tracks.items ∙ ap (λ only. shown_at only (places_of head.tracks.items)) (sym c.in-Some.is)
