use Rattle.std.proofs.Common.{rules, arith, ◌<◌, length, slice_set, ◌∙◌}
use Rattle.std.proofs.lemmas.Option.{slice_get-get_or}
use Rattle.std.proofs.lemmas.Result.{err_from_is_err_and}
use Rattle.mp4_plan.proofs.AllTake.{one_takes, one_stops}
use Rattle.mp4_content.proofs.AtPlaces.{one_there}
use Rattle.mp4_plan.proofs.NextSamples.{noted_more, noted_all, come_length, rooms_set}
use Rattle.mp4_plan.proofs.Planning.{comes_there, reduced_there, same_come, walks_set}
use Rattle.mp4_plan.specs.words.WriterSteps.{MayWrite}
use Rattle.mp4_plan.proofs.AllMay.{one_moves, one_ends}
use Rattle.mp4_plan.proofs.StepsOn.{none_taken, all_then, all_then_stop, writes_none_taken, write_then, write_then_stop}
use Rattle.mp4_plan.proofs.WritesOn.{marked_kept}
use Rattle.mp4_plan.proofs.first_samples.peek_each.Goals as goal

pub loop-k-init : goal.loop-k-init
loop-k-init g c = record {
  walks = c.requires.walks;
  nexts = c.requires.many.0;
  many = search rules;
  rooms = search rules;
  honesty = search rules;
  file = search rules;
  reads = search rules;
  looks = search rules;
  shown = λ told tree o lefts by h. (h, search rules);
  takes = λ told tree o n h. none_taken (g.S.Store.file c.args.store.now) tree c.args.walks.now n _ h;
  marked = λ lefts h. h;
  writes = λ told tree o n h. writes_none_taken (g.S.Store.file c.args.store.now) tree c.args.movie.now c.args.walks.now n _ h;
  grows = omega arith;
}

pub loop-k-preserved : goal.loop-k-preserved
loop-k-preserved g c =
    let i = c.loop-k.invariant in
    let file = g.S.Store.file c.args.store.now in
    let m = c.args.movie.now in
    let walks = c.loop-k.walks in
    let k = c.loop-k.k in
    let now = c.next_marked.new.walk in
    let e = c.in_ok-nexts.ensures in
    let lt = c.loop-k-test.true in
    let many = i.many in
    let each = i.nexts in
    let inside : k < length walks = omega (arith, lt, many) in
    let within : k < length c.loop-k.nexts = omega (arith, inside, each) in
    record {
      walks = walks_set m walks k now i.walks e.loads.walk.walk;
      nexts = search rules;
      many = search rules;
      rooms = rooms_set walks k now c.index-walks-k.result inside e.loads.walk.room ∙ i.rooms;
      honesty = e.loads.store.honesty ∙ i.honesty;
      file = e.loads.store.file ∙ i.file;
      reads = e.loads.store.reads ∙ i.reads;
      looks = search rules;
      shown = λ told tree o lefts by h.
          let was = i.shown told tree o lefts by h in
          let r = comes_there c.args.content.now.leaving file tree m walks lefts k c.index-walks-k.result was.0 inside in
          let own = one_there c.args.content.now.of_tracks.items c.loop-k.k _ _ c.reduction-reduction.ensures (reduced_there c.args.content.now.leaving (g.S.Store.file c.args.store.now) tree c.args.content.now.of_tracks.items c.loop-k.k r.t by r.is_tree) in
          let come = (rw (i.honesty, i.file, own) at e.coming) told tree r.t r.left o r.comes in
          (same_come c.args.content.now.leaving file tree m walks lefts k _ now was.0 r come.0, noted_more c.loop-k.nexts lefts k r.left c.in_ok-nexts.field-0 was.1 within r.is_left come.1);
      takes = λ told tree o n h.
          all_then file tree walks (slice_set walks k now) n _ _ _ (i.takes told tree o n h)
          (λ rest may. one_takes file tree tree.movie.tracks walks k _ now rest _ _ may (slice_get-get_or walks k c.index-walks-k.result inside) (λ t own own_may. (rw (i.honesty, i.file) at e.work) told tree t own o own_may));
      marked = λ lefts h. marked_kept walks lefts k _ now (i.marked lefts h) (slice_get-get_or walks k c.index-walks-k.result inside) e.marked;
      writes = λ told tree o n h.
          write_then file tree m walks (slice_set walks k now) n _ _ _ (i.writes told tree o n h)
          (λ rest may. one_moves (MayWrite file tree m) tree.movie.tracks walks k _ now rest _ _ may (slice_get-get_or walks k c.index-walks-k.result inside) (λ t own own_may. (rw (i.honesty, i.file) at e.writes) told tree t own o own_may));
      grows = (let more = e.grows in let so = i.grows in omega (arith, more, so));
    }

pub returns-in_err-nexts-clause-unchanged : goal.returns-in_err-nexts-clause-unchanged
returns-in_err-nexts-clause-unchanged g c told tree o lefts by h =
    let p = err_from_is_err_and c.from_residual.result c.from_residual.ensures.1 in
    let i = c.loop-k.invariant in
    let lt = c.loop-k-test.true in
    let many = i.many in
    let was = i.shown told tree o lefts by h in
    let r = comes_there c.args.content.now.leaving (g.S.Store.file c.args.store.now) tree c.args.movie.now c.loop-k.walks lefts c.loop-k.k c.index-walks-k.result was.0 (omega (arith, lt, many)) in
    let own = one_there c.args.content.now.of_tracks.items c.loop-k.k _ _ c.reduction-reduction.ensures (reduced_there c.args.content.now.leaving (g.S.Store.file c.args.store.now) tree c.args.content.now.of_tracks.items c.loop-k.k r.t by r.is_tree) in
    rw (p.1, p.2) ((rw (i.honesty, i.file, own) at c.in_err-nexts.ensures.unchanged) told tree r.t r.left o r.comes)

pub returns-in_err-nexts-clause-work : goal.returns-in_err-nexts-clause-work
returns-in_err-nexts-clause-work g c =
    let p = err_from_is_err_and c.from_residual.result c.from_residual.ensures.1 in
    let i = c.loop-k.invariant in
    let file = g.S.Store.file c.args.store.now in
    let m = c.args.movie.now in
    let walks = c.loop-k.walks in
    let lt = c.loop-k-test.true in
    let many = i.many in (
      λ told tree o n h. rw p.1 (all_then_stop file tree walks n _ _ _ (i.takes told tree o n h) (λ rest may. one_stops file tree tree.movie.tracks walks c.loop-k.k _ rest _ _ may (slice_get-get_or walks c.loop-k.k c.index-walks-k.result (omega (arith, lt, many))) (λ t own own_may.
          (rw (i.honesty, i.file) at c.in_err-nexts.ensures.work) told tree t own o own_may))),
      λ told tree o n h. rw p.1 (write_then_stop file tree m walks n _ _ _ (i.writes told tree o n h) (λ rest may. one_ends (MayWrite file tree m) tree.movie.tracks walks c.loop-k.k _ rest _ _ may (slice_get-get_or walks c.loop-k.k c.index-walks-k.result (omega (arith, lt, many)))
          (λ t own own_may. (let most = (rw (i.honesty, i.file) at c.in_err-nexts.ensures.work) told tree t own_may.own o own_may.may in let sum = own_may.sum in omega (arith, most, sum))))),
    )

pub returns-clause-shown : goal.returns-clause-shown
returns-clause-shown g c told tree o lefts by h =
    let i = c.loop-k.invariant in
    let was = i.shown told tree o lefts by h in
    let last = c.loop-k-test.false in
    let many = i.many in
    let each = i.nexts in
    let all = come_length c.args.content.now.leaving (g.S.Store.file c.args.store.now) tree c.args.movie.now tree.movie.tracks c.loop-k.walks lefts was.0 in
    (noted_all c.loop-k.nexts lefts c.loop-k.k was.1 (omega (arith, last, many, each)) (omega (arith, last, many, all)), was.0)
