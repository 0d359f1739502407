use Rattle.std.proofs.Common.{rules, arith, ◌<◌, ◌≤◌, length, ap, map, ◌∙◌}
use Rattle.std.proofs.lemmas.Result.{err_from_is_err_and}
use Rattle.std.proofs.lemmas.List.{take_all}
use Rattle.mp4_boxes.proofs.Plain.{length_zip}
use Rattle.mp4_head.specs.format.Tree.{TrackTree}
use Rattle.mp4_present.specs.format.Denotes.{file_parts, track_of}
use Rattle.mp4_present.specs.words.OpenedMovie.{IsInfoOf}
use Rattle.mp4_content.specs.format.Remaining.{track_divisor}
use Rattle.mp4_content.proofs.MeasuredTracks.{is_at, steps_more, steps_within}
use Rattle.mp4_content.proofs.TrackDivisors.{edits_there, mapped_more}
use Rattle.mp4_content.proofs.scales.track_divisors.Goals as goal

pub loop-track-preserved : goal.loop-track-preserved
loop-track-preserved g c =
    let i = c.loop-track.invariant in
    let e = c.in_ok-track_divisor.ensures in
    let l = c.args.leaving in
    let m = c.args.movie.now in
    let k = c.loop-track.track in
    let file = g.S.Store.file c.args.store.now in
    let lt : k < length m.tracks = search rules in
    let before = i.grows in
    let more = e.grows in
    record {
      many = search rules;
      honesty = e.store.honesty ∙ i.honesty;
      file = e.store.file ∙ i.file;
      reads = e.store.reads ∙ i.reads;
      looks = e.looks ∙ i.looks;
      grows = omega (arith, before, more);
      found = λ told tree o left same.
          let a = is_at l file m tree o k lt in
          let edits = edits_there c.args.heads.now tree.movie.tracks k a.t c.edits_at-edits.result.now same a.is_tree c.edits_at-edits.ensures in
          let one = (rw (i.honesty, i.file) at e.divisor) told tree a.t o a.is_tree left edits in
          rw c.in_ok-push.ensures.items (mapped_more (λ (t : TrackTree). track_divisor l (track_of file (file_parts tree) t)) tree.movie.tracks k a.t c.loop-track.divisors.items _ (i.found told tree o left same) a.is_tree one);
      work = λ told tree o.
          let a = is_at l file m tree o k lt in
          steps_more l file m tree o k _ _ _ a (i.work told tree o) ((rw (i.honesty, i.file) at e.work) told tree a.t o a.is_tree);
    }

pub returns-in_err-track_divisor-clause-unchanged : goal.returns-in_err-track_divisor-clause-unchanged
returns-in_err-track_divisor-clause-unchanged g c told tree o =
    let p = err_from_is_err_and c.from_residual-in_err-track_divisor.result c.from_residual-in_err-track_divisor.ensures.1 in
    let i = c.loop-track.invariant in
    let lt : c.loop-track.track < length c.args.movie.now.tracks = search rules in
    let a = is_at c.args.leaving (g.S.Store.file c.args.store.now) c.args.movie.now tree o c.loop-track.track lt in
    rw (p.1, p.2) ((rw (i.honesty, i.file) at c.in_err-track_divisor.ensures.unchanged) told tree a.t o a.is_tree)

pub returns-in_err-track_divisor-clause-work : goal.returns-in_err-track_divisor-clause-work
returns-in_err-track_divisor-clause-work g c told tree o =
    let i = c.loop-track.invariant in
    let l = c.args.leaving in
    let file = g.S.Store.file c.args.store.now in
    let m = c.args.movie.now in
    let k = c.loop-track.track in
    let lt : k < length m.tracks = search rules in
    let a = is_at l file m tree o k lt in
    steps_within l file m tree o _ _ _ (steps_more l file m tree o k _ _ _ a (i.work told tree o) ((rw (i.honesty, i.file) at c.in_err-track_divisor.ensures.work) told tree a.t o a.is_tree))

pub returns-in_err-push-clause-work : goal.returns-in_err-push-clause-work
returns-in_err-push-clause-work g c told tree o =
    let i = c.loop-track.invariant in
    let l = c.args.leaving in
    let file = g.S.Store.file c.args.store.now in
    let m = c.args.movie.now in
    let k = c.loop-track.track in
    let lt : k < length m.tracks = search rules in
    let a = is_at l file m tree o k lt in
    steps_within l file m tree o _ _ _ (steps_more l file m tree o k _ _ _ a (i.work told tree o) ((rw (i.honesty, i.file) at c.in_ok-track_divisor.ensures.work) told tree a.t o a.is_tree))

pub returns-clause-divisors : goal.returns-clause-divisors
returns-clause-divisors g c told tree o left same =
    let file = g.S.Store.file c.args.store.now in
    let m = c.args.movie.now in
    let many = length_zip (IsInfoOf file tree) tree.movie.tracks m.tracks o.tracks in
    let le : length m.tracks ≤ c.loop-track.track = search rules in
    c.loop-track.invariant.found told tree o left same ∙ ap (map (λ (t : TrackTree). track_divisor c.args.leaving (track_of file (file_parts tree) t))) (take_all c.loop-track.track tree.movie.tracks (omega (arith, many, le)))

pub returns-clause-work : goal.returns-clause-work
returns-clause-work g c told tree o = steps_within c.args.leaving (g.S.Store.file c.args.store.now) c.args.movie.now tree o c.loop-track.track _ _ (c.loop-track.invariant.work told tree o)
