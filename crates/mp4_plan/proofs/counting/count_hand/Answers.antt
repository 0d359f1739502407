use Rattle.mp4_present.specs.declared.walking.in_hand.InHand.TheVariants as hands
use Rattle.mp4_present.specs.declared.walking.in_hand.Place.TheVariants as places
use Rattle.mp4_present.proofs.WalkPlaces.{kept_on}
use Rattle.mp4_content.proofs.WalksOn.{hand_kept}
use Rattle.mp4_content.proofs.CourseSteps.{hand_keeps}
use Rattle.mp4_plan.proofs.counting.count_hand.Goals as goal

pub returns-in-Tables-clause-place : goal.returns-in-Tables-clause-place
returns-in-Tables-clause-place c = kept_on c.args.movie.now c.args.walk.now (hands.Tables c.in-Tables.inner) (hands.Tables c.count_left-count.new.samples.inner) (places.Tables c.place.result) c.requires c.in-Tables.ensures.hand c.count_left-count.ensures.later.0 (
  c.place.ensures.is,
  c.place.ensures.place,
)

pub returns-in-Tables-clause-counted : goal.returns-in-Tables-clause-counted
returns-in-Tables-clause-counted c =
    let same = c.count_left-count.ensures.later.1 in
    record {
      hand = hands.Tables c.in-Tables.inner;
      is_hand = c.in-Tables.ensures.hand;
      later = hands.Tables c.count_left-count.new.samples.inner;
      is_later = hand_kept c.args.movie.now c.args.walk.now (hands.Tables c.in-Tables.inner) (hands.Tables c.count_left-count.new.samples.inner) (places.Tables c.place.result) c.in-Tables.ensures.hand c.count_left-count.ensures.later.0 (c.place.ensures.is, c.place.ensures.place);
      counts = rw same at c.count_left-count.ensures.counts;
      shown = rw same at c.peek.ensures;
      few = c.count_left-count.ensures.few;
      stops = rw (c.peek.ensures) c.count_left-count.ensures.stops;
    }

pub returns-in-Tables-clause-keeps : goal.returns-in-Tables-clause-keeps
returns-in-Tables-clause-keeps c = hand_keeps c.args.movie.now c.args.walk.now (hands.Tables c.in-Tables.inner) (hands.Tables c.count_left-count.new.samples.inner) (places.Tables c.place.result) c.in-Tables.ensures.movie c.requires c.in-Tables.ensures.hand c.count_left-count.ensures.later.0
    (c.place.ensures.is, c.place.ensures.place)

pub returns-in-Fragment-clause-place : goal.returns-in-Fragment-clause-place
returns-in-Fragment-clause-place c = kept_on c.args.movie.now c.args.walk.now (hands.Fragment c.in-Fragment.inner) (hands.Fragment c.count_left-count-in-Fragment.new.samples.inner) (places.Fragment c.place-in-Fragment.result) c.requires c.in-Fragment.ensures.hand
    (c.count_left-count-in-Fragment.ensures.later.0.0, c.count_left-count-in-Fragment.ensures.later.0.1, c.count_left-count-in-Fragment.ensures.later.0.2, c.count_left-count-in-Fragment.ensures.later.2) (c.place-in-Fragment.ensures.is, c.place-in-Fragment.ensures.place)

pub returns-in-Fragment-clause-counted : goal.returns-in-Fragment-clause-counted
returns-in-Fragment-clause-counted c =
    let same = c.count_left-count-in-Fragment.ensures.later.1 in
    record {
      hand = hands.Fragment c.in-Fragment.inner;
      is_hand = c.in-Fragment.ensures.hand;
      later = hands.Fragment c.count_left-count-in-Fragment.new.samples.inner;
      is_later = hand_kept c.args.movie.now c.args.walk.now (hands.Fragment c.in-Fragment.inner) (hands.Fragment c.count_left-count-in-Fragment.new.samples.inner) (places.Fragment c.place-in-Fragment.result) c.in-Fragment.ensures.hand (
        c.count_left-count-in-Fragment.ensures.later.0.0,
        c.count_left-count-in-Fragment.ensures.later.0.1,
        c.count_left-count-in-Fragment.ensures.later.0.2,
        c.count_left-count-in-Fragment.ensures.later.2,
      ) (c.place-in-Fragment.ensures.is, c.place-in-Fragment.ensures.place);
      counts = rw same at c.count_left-count-in-Fragment.ensures.counts;
      shown = rw same at c.peek-in-Fragment.ensures;
      few = c.count_left-count-in-Fragment.ensures.few;
      stops = rw (c.peek-in-Fragment.ensures) c.count_left-count-in-Fragment.ensures.stops;
    }

pub returns-in-Fragment-clause-keeps : goal.returns-in-Fragment-clause-keeps
returns-in-Fragment-clause-keeps c = hand_keeps c.args.movie.now c.args.walk.now (hands.Fragment c.in-Fragment.inner) (hands.Fragment c.count_left-count-in-Fragment.new.samples.inner) (places.Fragment c.place-in-Fragment.result) c.in-Fragment.ensures.movie c.requires c.in-Fragment.ensures.hand
    (c.count_left-count-in-Fragment.ensures.later.0.0, c.count_left-count-in-Fragment.ensures.later.0.1, c.count_left-count-in-Fragment.ensures.later.0.2, c.count_left-count-in-Fragment.ensures.later.2) (c.place-in-Fragment.ensures.is, c.place-in-Fragment.ensures.place)
