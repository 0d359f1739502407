use Rattle.std.proofs.Common.{rules, ◌≡◌, ◌+◌, ◌<◌, ap, length, refl, ◌∙◌, arith}
use Rattle.mp4_head.specs.words.Seen.{track_seen}
use Rattle.mp4_content.specs.words.Divided.{divided_head, divisor_at}
use Rattle.mp4_present.proofs.TellingWaits.{places_stay}
use Rattle.mp4_content.proofs.HeadLess.{divided_all}
use Rattle.mp4_present.proofs.Changed.{changed_none, changed_one, there_is}
use Rattle.mp4_content.proofs.reduced_head.divide_tracks.Goals as goal

pub loop-k-init : goal.loop-k-init
loop-k-init c = (refl, changed_none track_seen (λ n. divided_head c.args.leaving c.args.scales.now.movie (divisor_at c.args.scales.now.tracks.items n)) 0 _ _ refl, refl)

pub loop-k-preserved : goal.loop-k-preserved
loop-k-preserved c =
    let i = c.loop-k.invariant in
    let s = c.args.scales.now in
    let was = c.index_mut.result.now in
    let lt : c.loop-k.k < length c.loop-k.tracks.items = search rules in
    let at = there_is c.loop-k.tracks.items c.loop-k.k _ was lt c.index_mut.ensures.value in
    let place : c.loop-k.k ≡ c.loop-k.k + 0 = omega arith in
    let here = c.divide_track.ensures.divided ∙ (λ i. divided_head c.args.leaving s.movie (c.track.ensures i) (track_seen was)) ∙ ap (λ n. divided_head c.args.leaving s.movie (divisor_at s.tracks.items n) (track_seen was)) place in (
      search rules,
      changed_one track_seen (λ n. divided_head c.args.leaving s.movie (divisor_at s.tracks.items n)) 0 _ c.loop-k.tracks.items c.loop-k.k was c.divide_track.new.track i.1 at here,
      places_stay c.loop-k.tracks.items c.loop-k.k was c.divide_track.new.track at c.divide_track.ensures.place ∙ i.2,
    )

pub returns-clause-divided : goal.returns-clause-divided
returns-clause-divided c =
    divided_all c.args.leaving c.args.scales.now.movie c.args.scales.now.tracks.items _ c.loop-k.tracks.items c.loop-k.k c.loop-k.invariant.1 (search rules)

pub returns-clause-places : goal.returns-clause-places
returns-clause-places c = c.loop-k.invariant.2
