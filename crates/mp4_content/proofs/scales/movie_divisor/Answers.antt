use Rattle.std.proofs.Common.{rules, ◌≡◌, ◌<◌, false, true, List, length, map, ap, sym, ◌∙◌}
use Rattle.mp4_head.specs.format.Head.{Edit, TrackHead}
use Rattle.mp4_head.specs.words.Seen.{edit_seen, track_seen}
use Rattle.mp4_head.specs.declared.edit_list.Edit.{Edit as EditRead}
use Rattle.mp4_content.specs.words.Scales.{divisor_from, edits_left, segments_of}
use Rattle.mp4_content.specs.format.Timescales.{counted_timescale}
use Rattle.mp4_content.proofs.DivisorsFound.{edits_stay, many_more, no_segments}
use Rattle.mp4_content.proofs.scales.movie_divisor.Goals as goal

pub returns-then-has : goal.returns-then-has
returns-then-has c =
    let l = c.args.leaving in
    let less : l.edits ≡ true = sym c.has.ensures ∙ c.if-has.true in
    c.counted_timescale-divisor.ensures ∙ sym (ap (divisor_from (counted_timescale l c.args.head.now.timescale)) (no_segments l (map track_seen c.args.head.now.tracks.items) less))

pub loop-k-preserved : goal.loop-k-preserved
loop-k-preserved c =
    let l = c.args.leaving in
    let heads = c.args.head.now.tracks.items in
    let k = c.loop-k.k in
    let g = c.loop-k.divisor in
    let h = c.index.result.now in
    let stay : l.edits ≡ false = sym c.has.ensures ∙ c.if-has.false in
    let lt : k < length heads = search rules in
    let next : c.with_segments-divisor.result ≡ divisor_from g (segments_of (edits_left l (track_seen h).edits)) = c.with_segments-divisor.ensures
    ∙ ap (λ (es : List EditRead). divisor_from g (segments_of (map edit_seen es))) c.as_slice.ensures.value ∙ sym (ap (λ (es : List Edit). divisor_from g (segments_of es)) (edits_stay l (map edit_seen h.edits.items) stay)) in
    many_more (λ (t : TrackHead). segments_of (edits_left l t.edits)) track_seen heads k g _ h lt c.index.ensures next ∙ c.loop-k.invariant
