use Rattle.std.proofs.Common.{rules, ◌<◌, [], ◌∷◌, length}
use Rattle.mp4_present.specs.words.Movies.{IsWalkOf}
use Rattle.mp4_plan.proofs.Planning.{one_room, one_within, one_begins, all_begin, one_marked, all_marked, first_marked}
use Rattle.mp4_plan.proofs.AllTake.{one_to_take, all_to_take, one_to_write, all_to_write}
use Rattle.mp4_plan.proofs.first_samples.walks_of.Goals as goal
use Rattle.mp4_boxes.proofs.Among.{all_append}

pub loop-track-preserved : goal.loop-track-preserved
loop-track-preserved c =
    let i = c.loop-track.invariant in
    let m = c.args.movie.now in
    let walk = c.in_ok-walk.field-0 in
    let e = c.in_ok-walk.ensures in
    let lt : c.loop-track.track < length m.tracks = search rules in
    rw c.in_ok-push.ensures.items (
      all_append (IsWalkOf m) c.loop-track.walks.items (walk ∷ []) i.0 (e.walk, tt),
      search rules,
      (one_room m c.loop-track.track c.loop-track.walks.items walk i.2.0 e.room, one_within c.loop-track.walks.items walk c.loop-track.track m.longest i.2.1 e.within),
      one_begins m c.loop-track.track c.loop-track.walks.items walk i.3 i.1 lt (λ file tree t o. e.coming file tree t o),
      one_to_take m c.loop-track.track c.loop-track.walks.items walk i.4 i.1 lt (λ file tree t o. e.may file tree t o),
      one_marked m c.loop-track.track c.loop-track.walks.items walk i.5 lt e.mark,
      one_to_write m c.loop-track.track c.loop-track.walks.items walk i.6 i.1 lt (first_marked m walk c.loop-track.track (λ file tree t o. e.coming file tree t o) lt e.mark) (λ file tree t o. e.may file tree t o),
    )

pub returns-clause-start : goal.returns-clause-start
returns-clause-start c = record {
  begin = all_begin c.args.movie.now c.loop-track.track c.loop-track.walks.items c.loop-track.invariant.3 (search rules);
  marked = all_marked c.args.movie.now c.loop-track.track c.loop-track.walks.items c.loop-track.invariant.5 (search rules);
  may = all_to_take c.args.movie.now c.loop-track.track c.loop-track.walks.items c.loop-track.invariant.4 (search rules);
  writes = all_to_write c.args.movie.now c.loop-track.track c.loop-track.walks.items c.loop-track.invariant.6 (search rules);
}
