use Rattle.std.proofs.Common.{get_or, rules, List, true, ◌≡◌, ◌<◌, length, ap, sym, ◌∙◌}
use Rattle.mp4_present.specs.declared.track_info.TrackInfo.{TrackInfo}
use Rattle.mp4_content.proofs.AtPlaces.{read_at}
use Rattle.mp4_present.specs.format.Denotes.{file_parts, track_of}
use Rattle.mp4_present.specs.words.SamplesComing.{track_samples}
use Rattle.mp4_content.specs.format.Remaining.{track_divisor}
use Rattle.mp4_content.specs.words.ComingLess.{plain_reduction}
use Rattle.mp4_content.proofs.MeasuredTracks.{counted_total, own_divisor_at, is_at, none_asked, plain_is, so_far_all, so_far_more}
use Rattle.mp4_content.specs.declared.measures.Total.{Total}
use Rattle.mp4_content.proofs.measures.measure_at_once.Goals as goal

pub loop-track-preserved : goal.loop-track-preserved
loop-track-preserved c =
    let i = c.loop-track.invariant in
    let l = c.args.leaving in
    let m = c.args.movie.now in
    let k = c.loop-track.track in
    let lt : k < length m.tracks = search rules in
    record {
      many = search rules;
      measured = λ none file tree o are.
          let a = is_at l file m tree o k lt in
          let at = rw c.tracks-tracks.ensures at c.index-tracks-track.is in
          let info = read_at m.tracks k a.info c.index-tracks-track.result a.is_info at in
          let lasts = ap (λ (ts : List TrackInfo). (get_or ts k c.index-tracks-track.result).duration) c.tracks-tracks.ensures ∙ ap (λ (x : TrackInfo). x.duration) (sym at ∙ info) in
          let total : ◌≡◌ {A = Total} (record { duration = (get_or c.tracks-tracks.result.now k c.index-tracks-track.result).duration; is_near = true }) (record { duration = a.info.duration; is_near = true }) = λ i. record { duration = lasts i; is_near = true } in
          rw (c.in_ok-push.ensures.items, c.in_ok-push-2.ensures.items)
          (so_far_more l file m tree o k c.loop-track.of_tracks.items c.loop-track.totals.items _ _ a (i.measured none file tree o are)
          (c.plain.ensures ∙ ap (plain_reduction l) (c.track.ensures ∙ own_divisor_at l file tree c.args.scales.now k a.t are a.is_tree) ∙ plain_is l (track_divisor l (track_of file (file_parts tree) a.t)) (track_samples tree a.t) (none_asked l none)) (total
          ∙ counted_total l file tree a.t a.info none));
    }

pub returns-clause-measured : goal.returns-clause-measured
returns-clause-measured c none file tree o are =
    let r = so_far_all c.args.leaving file c.args.movie.now tree o c.loop-track.track c.loop-track.of_tracks.items c.loop-track.totals.items (c.loop-track.invariant.measured none file tree o are) (search rules) in
    record { reductions = r.0; totals = r.1 }
