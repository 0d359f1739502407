use Rattle.std.proofs.Common.{ap, ◌∙◌}
use Rattle.mp4_present.proofs.WalkPlaces.{kept_on}
use Rattle.mp4_plan.specs.declared.planner.Planned.{Planned}
use Rattle.mp4_plan.proofs.PlannerSteps.{planned_counts}
use Rattle.mp4_plan.proofs.HandsTaken.{fed_stops, fed_counts}
use Rattle.mp4_content.proofs.WalksOn.{hand_kept}
use Rattle.mp4_content.proofs.CourseSteps.{hand_keeps}
use Rattle.mp4_plan.proofs.track_pieces.feed_hand.Goals as goal

pub returns-clause-place : goal.returns-clause-place
returns-clause-place c = kept_on c.args.movie.now c.args.walk.now c.in_hand.result _ c.place.result c.requires.walk c.in_hand.ensures.hand c.feed.ensures.later.0.0 c.place.ensures

pub returns-clause-fed : goal.returns-clause-fed
returns-clause-fed c =
    let t = c.feed.ensures.later.1 in
    let same = c.feed.ensures.later.0.1 in
    let count = ap (λ (p : Planned). p.count) c.piece.ensures.is ∙ planned_counts c.args.planner.now.gathered in
    record {
      hand = c.in_hand.result;
      is_hand = c.in_hand.ensures.hand;
      later = c.feed.new.samples.inner.inner;
      is_later = hand_kept c.args.movie.now c.args.walk.now c.in_hand.result c.feed.new.samples.inner.inner c.place.result c.in_hand.ensures.hand c.feed.ensures.later.0.0 c.place.ensures;
      done = t.taken;
      whole = rw same at t.whole;
      count = fed_counts c.args.planner.now c.feed.new.self _ _ _ _ c.feed.ensures.piece c.feed.ensures.rest t;
      taken =
          let stops = fed_stops c.args.planner.now c.feed.new.self _ _ _ _ c.feed.ensures.piece c.feed.ensures.rest t in
          rw (c.stop_at.ensures, c.peek.ensures, same, ← count) (rw same at stops);
    }

pub returns-clause-keeps : goal.returns-clause-keeps
returns-clause-keeps c = hand_keeps c.args.movie.now c.args.walk.now c.in_hand.result _ c.place.result c.in_hand.ensures.movie c.requires.walk c.in_hand.ensures.hand c.feed.ensures.later.0.0 c.place.ensures
