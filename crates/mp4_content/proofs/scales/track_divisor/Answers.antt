use Rattle.std.proofs.Common.{◌≡◌, ◌<◌, length, map, refl, ap, ◌∙◌, arith}
use Rattle.std.proofs.lemmas.Result.{err_from_is_err_and}
use Rattle.mp4_present.specs.words.SamplesComing.{track_samples}
use Rattle.mp4_boxes.proofs.Plain.{get_some, get_zip}
use Rattle.mp4_head.specs.words.Seen.{edit_seen}
use Rattle.mp4_present.specs.words.OpenedMovie.{IsInfoOf}
use Rattle.mp4_present.specs.declared.track_info.TrackInfo.{TrackInfo}
use Rattle.mp4_content.specs.words.Scales.{divisor_from, head_times_left, sample_times_left}
use Rattle.mp4_content.proofs.AtPlaces.{read_at}
use Rattle.mp4_content.proofs.FirstBoxes.{if_ok}
use Rattle.mp4_content.proofs.SampleTimes.{track_found}
use Rattle.mp4_content.proofs.scales.track_divisor.Goals as goal

pub returns-in_err-reduction-clause-unchanged : goal.returns-in_err-reduction-clause-unchanged
returns-in_err-reduction-clause-unchanged g c told tree t o is =
    let p = err_from_is_err_and c.from_residual-in_err-reduction.result c.from_residual-in_err-reduction.ensures.1 in
    rw (p.1, p.2) (c.in_err-reduction.ensures.unchanged told tree t (track_samples tree t) o (c.in_ok-walk.ensures.coming (g.S.Store.file c.args.store.now) tree t o is))

pub returns-in_err-reduction-clause-work : goal.returns-in_err-reduction-clause-work
returns-in_err-reduction-clause-work g c told tree t o is =
    let may = c.in_ok-walk.ensures.may (g.S.Store.file c.args.store.now) tree t o is in
    let few = may.2 in
    let most = c.in_err-reduction.ensures.work told tree t may.0 o may.1 in
    omega (arith, few, most)

pub returns-clause-unchanged : goal.returns-clause-unchanged
returns-clause-unchanged g c told tree t o is =
    let e = c.in_ok-reduction.ensures in
    let comes = e.coming told tree t (track_samples tree t) o (c.in_ok-walk.ensures.coming (g.S.Store.file c.args.store.now) tree t o is) in
    (rw (e.store.honesty, e.store.file) at c.with_samples.ensures.unchanged) told tree t (track_samples tree t) o comes

pub returns-clause-divisor : goal.returns-clause-divisor
returns-clause-divisor g c told tree t o is left same =
    let file = g.S.Store.file c.args.store.now in
    let m = c.args.movie.now in
    let l = c.args.leaving in
    let k = c.args.track in
    let e = c.in_ok-reduction.ensures in
    let samples = track_samples tree t in
    let comes = c.in_ok-walk.ensures.coming file tree t o is in
    let found = (rw (e.store.honesty, e.store.file) at c.with_samples.ensures.divisor) told tree t samples o (e.coming told tree t samples o comes) in
    let lt : k < length m.tracks = c.requires in
    let there = get_some m.tracks k lt in
    let info : TrackInfo = there.0 in
    let are = get_zip (IsInfoOf file tree) tree.movie.tracks m.tracks k t info o.tracks is there.1 in
    let shown : TrackInfo = c.index-tracks-track.result in
    let edits = map edit_seen c.args.edits.now in
    let read : shown ≡ info = read_at m.tracks k info shown there.1 (rw c.tracks.ensures at c.index-tracks-track.is) in
    let head : c.head_divisor-found.result ≡ divisor_from 0 (head_times_left l shown.timescale shown.start edits) = c.head_divisor-found.ensures in
    let begun = head ∙ ap (λ (x : TrackInfo). divisor_from 0 (head_times_left l x.timescale x.start edits)) read in
    let all = (λ i. divisor_from (begun i) (sample_times_left (e.reduction told tree t samples o comes refl i) samples))
    ∙ track_found l 1 file tree t info.timescale info.start edits left are.timescale are.start same in
    if_ok _ _ c.with_samples.result (λ n is_found. is_found ∙ all) found

pub returns-clause-work : goal.returns-clause-work
returns-clause-work g c told tree t o is =
    let e = c.in_ok-reduction.ensures in
    let may = c.in_ok-walk.ensures.may (g.S.Store.file c.args.store.now) tree t o is in
    let few = may.2 in
    let on = e.work told tree t may.0 o may.1 in
    let within = on.2 in
    let most = (rw (e.store.honesty, e.store.file) at c.with_samples.ensures.work) told tree t on.0 o on.1 in
    omega (arith, few, within, most)
