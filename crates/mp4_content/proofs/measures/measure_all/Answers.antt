use Rattle.std.proofs.Common.{ℕ, rules, ◌<◌, length, ap, ◌∙◌, arith, refl}
use Rattle.std.proofs.lemmas.Result.{err_from_is_err_and}
use Rattle.mp4_content.specs.words.ComingLess.{reduction_of}
use Rattle.mp4_content.specs.words.Measuring.{no_total, total_from}
use Rattle.mp4_present.specs.words.SamplesComing.{track_samples}
use Rattle.mp4_content.proofs.MeasuredTracks.{asked_total, own_divisor_at, is_at, so_far_all, so_far_more, so_far_none, steps_more, steps_within}
use Rattle.mp4_content.specs.declared.reduced.Reduction.{Reduction}
use Rattle.mp4_content.proofs.measures.measure_all.Goals as goal

pub loop-track-init : goal.loop-track-init
loop-track-init g c = record {
  many = search rules;
  honesty = refl;
  file = refl;
  reads = refl;
  looks = refl;
  grows = omega arith;
  measured = λ asks told tree o are. rw (c.in_ok-of_tracks.ensures.items, c.in_ok-totals.ensures.items) (so_far_none c.args.leaving (g.S.Store.file c.args.store.now) c.args.movie.now tree o);
  work = λ told tree o. omega arith;
}

pub loop-track-preserved : goal.loop-track-preserved
loop-track-preserved g c =
    let i = c.loop-track.invariant in
    let e = c.in_ok-found.ensures in
    let l = c.args.leaving in
    let m = c.args.movie.now in
    let k = c.loop-track.track in
    let file = g.S.Store.file c.args.store.now in
    let lt : k < length m.tracks = search rules in
    let before = i.grows in
    let more = e.grows in
    record {
      many = search rules;
      honesty = e.store.honesty ∙ i.honesty;
      file = e.store.file ∙ i.file;
      reads = e.store.reads ∙ i.reads;
      looks = e.looks ∙ i.looks;
      grows = omega (arith, before, more);
      measured = λ asks told tree o are.
          let a = is_at l file m tree o k lt in
          let found = (rw (i.honesty, i.file) at e.measured) told tree a.t o a.is_tree in
          let by = found.0 ∙ ap (λ (d : ℕ). reduction_of l d (track_samples tree a.t)) (c.track-divisor.ensures ∙ own_divisor_at l file tree c.args.scales.now k a.t are a.is_tree) in
          rw (c.in_ok-push.ensures.items, c.in_ok-push-2.ensures.items)
          (so_far_more l file m tree o k c.loop-track.of_tracks.items c.loop-track.totals.items c.in_ok-found.found.0 c.in_ok-found.found.1 a (i.measured asks told tree o are) by
          (found.1 ∙ ap (λ (r : Reduction). total_from r no_total (track_samples tree a.t)) by ∙ asked_total l file tree a.t a.info asks));
      work = λ told tree o.
          let a = is_at l file m tree o k lt in
          steps_more l file m tree o k _ _ _ a (i.work told tree o) ((rw (i.honesty, i.file) at e.work) told tree a.t o a.is_tree);
    }

pub returns-in_err-found-clause-unchanged : goal.returns-in_err-found-clause-unchanged
returns-in_err-found-clause-unchanged g c told tree o =
    let p = err_from_is_err_and c.from_residual-in_err-found.result c.from_residual-in_err-found.ensures.1 in
    let i = c.loop-track.invariant in
    let lt : c.loop-track.track < length c.args.movie.now.tracks = search rules in
    let a = is_at c.args.leaving (g.S.Store.file c.args.store.now) c.args.movie.now tree o c.loop-track.track lt in
    rw (p.1, p.2) ((rw (i.honesty, i.file) at c.in_err-found.ensures.unchanged) told tree a.t o a.is_tree)

pub returns-in_err-found-clause-work : goal.returns-in_err-found-clause-work
returns-in_err-found-clause-work g c told tree o =
    let i = c.loop-track.invariant in
    let file = g.S.Store.file c.args.store.now in
    let m = c.args.movie.now in
    let k = c.loop-track.track in
    let lt : k < length m.tracks = search rules in
    let a = is_at c.args.leaving file m tree o k lt in
    steps_within c.args.leaving file m tree o _ _ _ (steps_more c.args.leaving file m tree o k _ _ _ a (i.work told tree o) ((rw (i.honesty, i.file) at c.in_err-found.ensures.work) told tree a.t o a.is_tree))

pub returns-in_err-push-clause-work : goal.returns-in_err-push-clause-work
returns-in_err-push-clause-work g c told tree o =
    let i = c.loop-track.invariant in
    let file = g.S.Store.file c.args.store.now in
    let m = c.args.movie.now in
    let k = c.loop-track.track in
    let lt : k < length m.tracks = search rules in
    let a = is_at c.args.leaving file m tree o k lt in
    steps_within c.args.leaving file m tree o _ _ _ (steps_more c.args.leaving file m tree o k _ _ _ a (i.work told tree o) ((rw (i.honesty, i.file) at c.in_ok-found.ensures.work) told tree a.t o a.is_tree))

pub returns-in_err-push-2-clause-work : goal.returns-in_err-push-2-clause-work
returns-in_err-push-2-clause-work g c told tree o =
    let i = c.loop-track.invariant in
    let file = g.S.Store.file c.args.store.now in
    let m = c.args.movie.now in
    let k = c.loop-track.track in
    let lt : k < length m.tracks = search rules in
    let a = is_at c.args.leaving file m tree o k lt in
    steps_within c.args.leaving file m tree o _ _ _ (steps_more c.args.leaving file m tree o k _ _ _ a (i.work told tree o) ((rw (i.honesty, i.file) at c.in_ok-found.ensures.work) told tree a.t o a.is_tree))

pub returns-clause-measured : goal.returns-clause-measured
returns-clause-measured g c asks told tree o are =
    let r = so_far_all c.args.leaving (g.S.Store.file c.args.store.now) c.args.movie.now tree o c.loop-track.track c.loop-track.of_tracks.items c.loop-track.totals.items (c.loop-track.invariant.measured asks told tree o are) (search rules) in
    record { reductions = r.0; totals = r.1 }

pub returns-clause-work : goal.returns-clause-work
returns-clause-work g c told tree o = steps_within c.args.leaving (g.S.Store.file c.args.store.now) c.args.movie.now tree o c.loop-track.track _ _ (c.loop-track.invariant.work told tree o)
