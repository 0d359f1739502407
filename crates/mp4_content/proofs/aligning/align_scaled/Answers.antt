use Rattle.std.proofs.Common.{rules, refl, ◌+◌, ◌∙◌, ◌<◌, ◌≤◌, length, min, arith}
use Rattle.std.proofs.lemmas.Result.{err_from_is_err_and}
use Rattle.mp4_boxes.proofs.Plain.{get_some}
use Rattle.mp4_content.proofs.Aligned.{HaveScales, aligns_all, aligns_first, aligns_most, aligns_next, aligns_work, pair_left}
use Rattle.mp4_content.proofs.MeasuredTracks.{own_divisor_at}
use Rattle.mp4_content.proofs.FilesCompared.{below, infos_all}
use Rattle.mp4_content.proofs.aligning.align_scaled.Goals as goal

pub loop-place-init : goal.loop-place-init
loop-place-init g c = record {
  honesty = refl;
  file = refl;
  reads = refl;
  honesty_right = refl;
  file_right = refl;
  reads_right = refl;
  looks = refl;
  grows = omega arith;
  going = λ told told_right tree other o p. aligns_first (HaveScales c.args.leaving (g.S.Store.file c.args.left.now) tree (g.T.Store.file c.args.right.now) other c.args.scales.now) c.args.leaving (g.S.Store.file c.args.left.now) tree
      (g.T.Store.file c.args.right.now) other c.args.steps.now.passed c.new-found.result.items (search rules);
}

pub returns-in_err-aligned-clause-unchanged : goal.returns-in_err-aligned-clause-unchanged
returns-in_err-aligned-clause-unchanged g c told told_right tree other o p =
    let i = c.loop-place.invariant in
    let file = g.S.Store.file c.args.left.now in
    let right_file = g.T.Store.file c.args.right.now in
    let m = c.args.movies.now.left in
    let n = c.args.movies.now.right in
    let l = c.args.leaving in
    let k = c.loop-place.place in
    let h = i.going told told_right tree other o p in
    let least : k < min (length m.tracks) (length n.tracks) = search rules in
    let lt : k < length m.tracks = omega (arith, least) in
    let lt_right : k < length n.tracks = omega (arith, least) in
    let t = get_some tree.movie.tracks k (below k _ _ (infos_all file m tree o) lt) in
    let u = get_some other.movie.tracks k (below k _ _ (infos_all right_file n other p) lt_right) in
    let e = err_from_is_err_and c.from_residual.result c.from_residual.ensures.1 in
    rw (e.1, e.2) ((rw (i.honesty, i.file, i.honesty_right, i.file_right) at c.in_err-aligned.ensures.unchanged) told told_right tree other o p t.0 u.0 t.1 u.1)

pub returns-in_err-aligned-clause-work : goal.returns-in_err-aligned-clause-work
returns-in_err-aligned-clause-work g c told told_right tree other o p =
    let i = c.loop-place.invariant in
    let file = g.S.Store.file c.args.left.now in
    let right_file = g.T.Store.file c.args.right.now in
    let m = c.args.movies.now.left in
    let n = c.args.movies.now.right in
    let l = c.args.leaving in
    let k = c.loop-place.place in
    let h = i.going told told_right tree other o p in
    let least : k < min (length m.tracks) (length n.tracks) = search rules in
    let lt : k < length m.tracks = omega (arith, least) in
    let lt_right : k < length n.tracks = omega (arith, least) in
    let t = get_some tree.movie.tracks k (below k _ _ (infos_all file m tree o) lt) in
    let u = get_some other.movie.tracks k (below k _ _ (infos_all right_file n other p) lt_right) in
    aligns_most (HaveScales l file tree right_file other c.args.scales.now) l file tree right_file other c.args.steps.now.passed k c.loop-place.found.items c.loop-place.steps.passed h t.0 u.0 t.1 u.1 c.align_tracks.new.steps.passed
    ((rw (i.honesty, i.file, i.honesty_right, i.file_right) at c.in_err-aligned.ensures.work) told told_right tree other o p t.0 u.0 t.1 u.1)

pub returns-in_err-put_aligned-clause-work : goal.returns-in_err-put_aligned-clause-work
returns-in_err-put_aligned-clause-work g c told told_right tree other o p =
    let i = c.loop-place.invariant in
    let file = g.S.Store.file c.args.left.now in
    let right_file = g.T.Store.file c.args.right.now in
    let m = c.args.movies.now.left in
    let n = c.args.movies.now.right in
    let l = c.args.leaving in
    let k = c.loop-place.place in
    let h = i.going told told_right tree other o p in
    let least : k < min (length m.tracks) (length n.tracks) = search rules in
    let lt : k < length m.tracks = omega (arith, least) in
    let lt_right : k < length n.tracks = omega (arith, least) in
    let t = get_some tree.movie.tracks k (below k _ _ (infos_all file m tree o) lt) in
    let u = get_some other.movie.tracks k (below k _ _ (infos_all right_file n other p) lt_right) in
    aligns_most (HaveScales l file tree right_file other c.args.scales.now) l file tree right_file other c.args.steps.now.passed k c.loop-place.found.items c.loop-place.steps.passed h t.0 u.0 t.1 u.1 c.align_tracks.new.steps.passed
    ((rw (i.honesty, i.file, i.honesty_right, i.file_right) at c.in_ok-aligned.ensures.work) told told_right tree other o p t.0 u.0 t.1 u.1)

pub loop-place-preserved : goal.loop-place-preserved
loop-place-preserved g c = record {
  honesty = search rules;
  file = search rules;
  reads = search rules;
  honesty_right = search rules;
  file_right = search rules;
  reads_right = search rules;
  looks = search rules;
  grows = (let more = c.in_ok-aligned.ensures.grows in let before = c.loop-place.invariant.grows in omega (arith, more, before));
  going = λ told told_right tree other o p.
      let i = c.loop-place.invariant in
      let file = g.S.Store.file c.args.left.now in
      let right_file = g.T.Store.file c.args.right.now in
      let m = c.args.movies.now.left in
      let n = c.args.movies.now.right in
      let l = c.args.leaving in
      let k = c.loop-place.place in
      let h = i.going told told_right tree other o p in
      let least : k < min (length m.tracks) (length n.tracks) = search rules in
      let lt : k < length m.tracks = omega (arith, least) in
      let lt_right : k < length n.tracks = omega (arith, least) in
      let t = get_some tree.movie.tracks k (below k _ _ (infos_all file m tree o) lt) in
      let u = get_some other.movie.tracks k (below k _ _ (infos_all right_file n other p) lt_right) in
      aligns_next (HaveScales l file tree right_file other c.args.scales.now) l file tree right_file other c.args.steps.now.passed k c.loop-place.found.items c.loop-place.steps.passed h t.0 u.0 t.1 u.1 c.in_ok-aligned.aligned c.put_aligned.new.found.items c.align_tracks.new.steps.passed
      (λ so. pair_left l c.of_tracks.result (k + 1) _ _ c.in_ok-aligned.aligned (c.of_tracks.ensures.left ∙ own_divisor_at l file tree c.args.scales.now.left k t.0 so.0 t.1) (c.of_tracks.ensures.right ∙ own_divisor_at l right_file other c.args.scales.now.right k u.0 so.1 u.1)
      ((rw (i.honesty, i.file, i.honesty_right, i.file_right) at c.in_ok-aligned.ensures.aligned) told told_right tree other o p t.0 u.0 t.1 u.1)) c.in_ok-put_aligned.ensures
      ((rw (i.honesty, i.file, i.honesty_right, i.file_right) at c.in_ok-aligned.ensures.work) told told_right tree other o p t.0 u.0 t.1 u.1);
}

pub returns-clause-aligned : goal.returns-clause-aligned
returns-clause-aligned g c told told_right tree other o p are are_right =
    let i = c.loop-place.invariant in
    let file = g.S.Store.file c.args.left.now in
    let right_file = g.T.Store.file c.args.right.now in
    let m = c.args.movies.now.left in
    let n = c.args.movies.now.right in
    let l = c.args.leaving in
    let k = c.loop-place.place in
    let h = i.going told told_right tree other o p in
    let le : min (length m.tracks) (length n.tracks) ≤ k = search rules in
    let many = infos_all file m tree o in
    let many_right = infos_all right_file n other p in
    aligns_all (HaveScales l file tree right_file other c.args.scales.now) l file tree right_file other c.args.steps.now.passed k c.loop-place.found.items c.loop-place.steps.passed h (omega (arith, le, many, many_right)) (are, are_right)

pub returns-clause-work : goal.returns-clause-work
returns-clause-work g c told told_right tree other o p =
    let i = c.loop-place.invariant in
    let file = g.S.Store.file c.args.left.now in
    let right_file = g.T.Store.file c.args.right.now in
    let m = c.args.movies.now.left in
    let n = c.args.movies.now.right in
    let l = c.args.leaving in
    let k = c.loop-place.place in
    let h = i.going told told_right tree other o p in
    aligns_work (HaveScales l file tree right_file other c.args.scales.now) l file tree right_file other c.args.steps.now.passed k c.loop-place.found.items c.loop-place.steps.passed h
