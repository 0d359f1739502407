use Rattle.std.proofs.Common.{rules, ◌∙◌, ◌++◌, ap}
use Rattle.mp4_head.specs.words.Seen.{track_seen}
use Rattle.mp4_head.specs.declared.heads.TrackHead.{TrackHead}
use Rattle.mp4_head.specs.format.Writing as written
use Rattle.mp4_head.proofs.Pieces.{put_none, put_more, put_all, seen_each}
use Rattle.mp4_head.proofs.writing.put_tracks.Goals as goal

pub loop-track-init : goal.loop-track-init
loop-track-init c = put_none _ _ _

pub loop-track-preserved : goal.loop-track-preserved
loop-track-preserved c =
    put_more (λ t. written.trak_bytes (track_seen t)) _ c.args.tracks.now c.loop-track.track-index c.track-item.result c.loop-track.out.items c.put_track.new.out.items c.loop-track-test.true
    (c.in_ok-put_track.ensures ∙ ap (λ (y : TrackHead). c.loop-track.out.items ++ written.trak_bytes (track_seen y)) c.track-item.is) c.loop-track.invariant

pub returns : goal.returns
returns c = put_all (λ t. written.trak_bytes (track_seen t)) _ c.args.tracks.now c.loop-track.track-index c.loop-track.out.items (search rules) c.loop-track.invariant ∙ ap (λ y. c.args.out.now.items ++ y) (seen_each written.trak_bytes track_seen c.args.tracks.now)
