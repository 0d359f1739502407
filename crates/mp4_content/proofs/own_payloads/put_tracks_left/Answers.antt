use Rattle.std.proofs.Common.{rules, ◌≡◌, ◌<◌, ◌≤◌, length, refl, Some, arith, ◌∙◌, length-set}
use Rattle.std.specs.Prelude.{slice_get}
use Rattle.mp4_head.specs.words.Seen.{media_seen, track_seen}
use Rattle.mp4_head.specs.declared.heads.TrackHead.{TrackHead}
use Rattle.mp4_content.specs.words.PayloadsLeft.{IsMediaLeft, track_payloads_left}
use Rattle.mp4_present.proofs.Changed.{there_is, all_changed, changed_none, unchanged_next, changed_one}
use Rattle.mp4_content.proofs.own_payloads.put_tracks_left.Goals as goal
use Rattle.mp4_boxes.proofs.Plain.{get_zip, length_zip}

pub loop-k-init : goal.loop-k-init
loop-k-init c = (refl, changed_none track_seen (λ n. track_payloads_left c.args.leaving) 0 _ _ refl)

pub loop-k-preserved : goal.loop-k-preserved
loop-k-preserved c =
    let i = c.loop-k.invariant in
    let k = c.loop-k.k in
    let old = c.args.tracks.now.items in
    let now = c.loop-k.tracks.items in
    let lefts = c.args.lefts.now in
    let track = c.index_mut.result.now in
    let left = c.index-lefts-k.result in
    let lt : k < length now = search rules in
    let lt_left : k < length lefts = search rules in
    let at : slice_get now k ≡ Some track = there_is now k _ track lt c.index_mut.ensures.value in
    let left_at : slice_get lefts k ≡ Some left = there_is lefts k _ left lt_left c.index-lefts-k.is in
    let is = get_zip (λ (t : TrackHead). IsMediaLeft c.args.leaving (media_seen t.media)) old lefts k track left c.requires (unchanged_next track_seen (λ n. track_payloads_left c.args.leaving) 0 old now k track i.1 at) left_at in
    (length-set now k c.put_media_left.new.track ∙ i.0, changed_one track_seen (λ n. track_payloads_left c.args.leaving) 0 old now k track c.put_media_left.new.track i.1 at (c.in_ok-put_media_left.ensures c.args.leaving is))

pub returns : goal.returns
returns c =
    let old = c.args.tracks.now.items in
    let many = length_zip (λ (t : TrackHead). IsMediaLeft c.args.leaving (media_seen t.media)) old c.args.lefts.now c.requires in
    let over : c.min-k-end.result ≤ c.loop-k.k = search rules in
    let least = c.min-k-end.ensures in
    let all : c.len.result ≡ length old = search rules in
    let same = c.loop-k.invariant.0 in
    all_changed track_seen (track_payloads_left c.args.leaving) old c.loop-k.tracks.items c.loop-k.k c.loop-k.invariant.1 (omega (arith, many, over, least, all, same))
