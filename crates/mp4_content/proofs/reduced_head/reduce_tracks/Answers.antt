use Rattle.std.proofs.Common.{rules, ◌<◌, length, refl, ◌∙◌}
use Rattle.mp4_head.specs.words.Seen.{track_seen}
use Rattle.mp4_content.specs.words.PayloadsLeft.{keeping_payloads}
use Rattle.mp4_content.specs.format.Reduced.{reduce_track_head}
use Rattle.mp4_present.proofs.TellingWaits.{places_stay}
use Rattle.mp4_present.proofs.Changed.{all_changed, changed_none, changed_one, there_is}
use Rattle.mp4_content.proofs.reduced_head.reduce_tracks.Goals as goal

pub loop-k-init : goal.loop-k-init
loop-k-init c = (refl, changed_none track_seen (λ n. reduce_track_head (keeping_payloads c.args.leaving)) 0 _ _ refl, refl)

pub loop-k-preserved : goal.loop-k-preserved
loop-k-preserved c =
    let i = c.loop-k.invariant in
    let lt : c.loop-k.k < length c.loop-k.tracks.items = search rules in
    let at = there_is c.loop-k.tracks.items c.loop-k.k _ c.index_mut.result.now lt c.index_mut.ensures.value in (
      search rules,
      changed_one track_seen (λ n. reduce_track_head
          (keeping_payloads c.args.leaving)) 0 _ c.loop-k.tracks.items c.loop-k.k c.index_mut.result.now c.reduce_track.new.track i.1 at c.reduce_track.ensures.left,
      places_stay c.loop-k.tracks.items c.loop-k.k c.index_mut.result.now c.reduce_track.new.track at c.reduce_track.ensures.place ∙ i.2,
    )

pub returns-clause-left : goal.returns-clause-left
returns-clause-left c = all_changed track_seen (reduce_track_head (keeping_payloads c.args.leaving)) _ c.loop-k.tracks.items c.loop-k.k c.loop-k.invariant.1 (search rules)

pub returns-clause-places : goal.returns-clause-places
returns-clause-places c = c.loop-k.invariant.2
