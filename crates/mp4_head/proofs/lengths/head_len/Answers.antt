use Rattle.std.proofs.Common.{rules, ◌∙◌, ◌+◌, ℕ, length, ap, arith}
use Rattle.mp4_head.specs.format.Head as heads
use Rattle.mp4_head.specs.words.Seen.{track_seen, movie_seen, tracks_seen}
use Rattle.mp4_head.specs.declared.heads.TrackHead.{TrackHead}
use Rattle.mp4_head.specs.format.Writing.{trak_bytes, trex_bytes}
use Rattle.mp4_head.specs.words.Parts.{capped}
use Rattle.mp4_head.proofs.HeadLengths.{counted_none, counted_more, counted_all, sum_seen, length_head}
use Rattle.mp4_head.proofs.lengths.head_len.Goals as goal

pub loop-track-init : goal.loop-track-init
loop-track-init c = counted_none _ _ _ (search rules)

pub loop-track-preserved : goal.loop-track-preserved
loop-track-preserved c =
    counted_more (λ t. length (trak_bytes (track_seen t)) + length (trex_bytes (track_seen t))) _ _ c.loop-track.track-index c.track-item.result c.loop-track.total c.add_track-total.result c.loop-track-test.true
    (c.add_track-total.ensures ∙ ap (λ (t : TrackHead). capped (c.loop-track.total + (length (trak_bytes (track_seen t)) + length (trex_bytes (track_seen t))))) c.track-item.is) c.loop-track.invariant

pub returns : goal.returns
returns c = record {
  length = λ (mehd : ℕ).
      let all = counted_all (λ t. length (trak_bytes (track_seen t)) + length (trex_bytes (track_seen t))) _ _ c.loop-track.track-index c.loop-track.total (search rules) c.loop-track.invariant in
      let seen = sum_seen (λ (t : heads.TrackHead). length (trak_bytes t) + length (trex_bytes t)) track_seen c.args.head.now.tracks.items in
      let k = rw c.deref.ensures.value at c.add_kept-total.ensures in
      let l = length_head (movie_seen c.args.head.now) (tracks_seen c.args.head.now) mehd (search rules) in
      let whole = rw c.deref-track-items.ensures.value at all in
      omega arith;
}
