use Rattle.std.proofs.Common.{rules, ◌≡◌, ◌+◌, ◌<◌, ap, length, refl, ◌∙◌, arith}
use Rattle.mp4_head.specs.words.Seen.{track_seen}
use Rattle.mp4_present.specs.format.Waiting.{waiting_head}
use Rattle.mp4_present.specs.words.HeadsRead.{wait_at}
use Rattle.mp4_present.proofs.Changed.{changed_none, changed_one, there_is}
use Rattle.mp4_present.proofs.TellingWaits.{heads_told, places_stay}
use Rattle.mp4_present.proofs.waiting.tell_tracks.Goals as goal

pub loop-k-init : goal.loop-k-init
loop-k-init c = (refl, changed_none track_seen (λ n. waiting_head (wait_at c.args.waits.now n)) 0 _ _ refl, refl)

pub loop-k-preserved : goal.loop-k-preserved
loop-k-preserved c =
    let i = c.loop-k.invariant in
    let waits = c.args.waits.now in
    let was = c.index_mut.result.now in
    let lt : c.loop-k.k < length c.loop-k.tracks.items = search rules in
    let at = there_is c.loop-k.tracks.items c.loop-k.k _ was lt c.index_mut.ensures.value in
    let place : c.loop-k.k ≡ c.loop-k.k + 0 = omega arith in
    let here = c.put_edits.ensures.put ∙ ap (λ es. record (track_seen was) { edits = es }) c.in_ok-edits.ensures ∙ ap (λ n. waiting_head n (track_seen was)) c.wait_at.ensures ∙ ap (λ n. waiting_head (wait_at waits n) (track_seen was)) place in (
      search rules,
      changed_one track_seen (λ n. waiting_head (wait_at waits n)) 0 _ c.loop-k.tracks.items c.loop-k.k was c.put_edits.new.track i.1 at here,
      places_stay c.loop-k.tracks.items c.loop-k.k was c.put_edits.new.track at c.put_edits.ensures.place ∙ i.2,
    )

pub returns-clause-told : goal.returns-clause-told
returns-clause-told c = heads_told c.args.waits.now _ c.loop-k.tracks.items c.loop-k.k c.loop-k.invariant.1 (search rules)

pub returns-clause-places : goal.returns-clause-places
returns-clause-places c = c.loop-k.invariant.2
