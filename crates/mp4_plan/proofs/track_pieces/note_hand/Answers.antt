use Rattle.std.proofs.Common.{List, subst}
use Rattle.mp4_tables.specs.declared.sample.SampleAt.{SampleAt}
use Rattle.mp4_present.specs.declared.walking.in_hand.InHand.TheVariants as hands
use Rattle.mp4_present.specs.declared.walking.in_hand.Place.TheVariants as places
use Rattle.mp4_plan.specs.words.Stretches.{JoinsOn}
use Rattle.mp4_present.proofs.WalkPlaces.{kept_on}
use Rattle.mp4_plan.proofs.HandSteps.{notes_take, notes_left, notes_seen, notes_joined}
use Rattle.mp4_plan.proofs.HandsTaken.{fed_stops, fed_counts}
use Rattle.mp4_content.proofs.WalksOn.{hand_kept}
use Rattle.mp4_content.proofs.CourseSteps.{hand_keeps}
use Rattle.mp4_plan.proofs.track_pieces.note_hand.Goals as goal

pub returns-in-Tables-clause-place : goal.returns-in-Tables-clause-place
returns-in-Tables-clause-place c = kept_on c.args.movie.now c.args.walk.now (hands.Tables c.in-Tables.inner) (hands.Tables c.note_left.new.samples.inner) (places.Tables c.place.result) c.requires.walk c.in-Tables.ensures.hand c.note_left.ensures.later.0 (c.place.ensures.is, c.place.ensures.place)

pub returns-in-Tables-clause-fed : goal.returns-in-Tables-clause-fed
returns-in-Tables-clause-fed c =
    let same = c.note_left.ensures.later.1 in
    let h = rw same at c.note_left.ensures.noted in
    let t = notes_take _ _ _ _ _ _ h in
    let left = notes_left _ _ _ _ _ _ h in (
      record {
        hand = hands.Tables c.in-Tables.inner;
        is_hand = c.in-Tables.ensures.hand;
        later = hands.Tables c.note_left.new.samples.inner;
        is_later = hand_kept c.args.movie.now c.args.walk.now (hands.Tables c.in-Tables.inner) (hands.Tables c.note_left.new.samples.inner) (places.Tables c.place.result) c.in-Tables.ensures.hand c.note_left.ensures.later.0 (c.place.ensures.is, c.place.ensures.place);
        done = t.taken;
        whole = t.whole;
        count = fed_counts c.args.planner.now c.note_left.new.planner _ _ _ _ h.piece left t;
        taken = rw (c.stop_at.ensures, c.peek.ensures, same) (fed_stops c.args.planner.now c.note_left.new.planner _ _ _ _ h.piece left t);
      },
      notes_seen _ _ _ _ _ _ h,
      subst (λ (l : List SampleAt). JoinsOn c.args.stretches.now c.note_left.new.stretches l) (notes_joined _ _ _ _ _ _ h (fed_counts c.args.planner.now c.note_left.new.planner _ _ _ _ h.piece left t)) c.note_left.ensures.joined,
    )

pub returns-in-Tables-clause-keeps : goal.returns-in-Tables-clause-keeps
returns-in-Tables-clause-keeps c = hand_keeps c.args.movie.now c.args.walk.now (hands.Tables c.in-Tables.inner) (hands.Tables c.note_left.new.samples.inner) (places.Tables c.place.result) c.in-Tables.ensures.movie c.requires.walk c.in-Tables.ensures.hand c.note_left.ensures.later.0 (
  c.place.ensures.is,
  c.place.ensures.place,
)

pub returns-in-Fragment-clause-place : goal.returns-in-Fragment-clause-place
returns-in-Fragment-clause-place c = kept_on c.args.movie.now c.args.walk.now (hands.Fragment c.in-Fragment.inner) (hands.Fragment c.note_left-in-Fragment.new.samples.inner) (places.Fragment c.place-in-Fragment.result) c.requires.walk c.in-Fragment.ensures.hand (
  c.note_left-in-Fragment.ensures.later.0.0,
  c.note_left-in-Fragment.ensures.later.0.1,
  c.note_left-in-Fragment.ensures.later.0.2,
  c.note_left-in-Fragment.ensures.later.2,
) (c.place-in-Fragment.ensures.is, c.place-in-Fragment.ensures.place)

pub returns-in-Fragment-clause-fed : goal.returns-in-Fragment-clause-fed
returns-in-Fragment-clause-fed c =
    let same = c.note_left-in-Fragment.ensures.later.1 in
    let h = rw same at c.note_left-in-Fragment.ensures.noted in
    let t = notes_take _ _ _ _ _ _ h in
    let left = notes_left _ _ _ _ _ _ h in (
      record {
        hand = hands.Fragment c.in-Fragment.inner;
        is_hand = c.in-Fragment.ensures.hand;
        later = hands.Fragment c.note_left-in-Fragment.new.samples.inner;
        is_later = hand_kept c.args.movie.now c.args.walk.now (hands.Fragment c.in-Fragment.inner) (hands.Fragment c.note_left-in-Fragment.new.samples.inner) (places.Fragment c.place-in-Fragment.result) c.in-Fragment.ensures.hand (
          c.note_left-in-Fragment.ensures.later.0.0,
          c.note_left-in-Fragment.ensures.later.0.1,
          c.note_left-in-Fragment.ensures.later.0.2,
          c.note_left-in-Fragment.ensures.later.2,
        ) (c.place-in-Fragment.ensures.is, c.place-in-Fragment.ensures.place);
        done = t.taken;
        whole = t.whole;
        count = fed_counts c.args.planner.now c.note_left-in-Fragment.new.planner _ _ _ _ h.piece left t;
        taken = rw (c.stop_at-in-Fragment.ensures, c.peek-in-Fragment.ensures, same) (fed_stops c.args.planner.now c.note_left-in-Fragment.new.planner _ _ _ _ h.piece left t);
      },
      notes_seen _ _ _ _ _ _ h,
      subst (λ (l : List SampleAt). JoinsOn c.args.stretches.now c.note_left-in-Fragment.new.stretches l) (notes_joined _ _ _ _ _ _ h (fed_counts c.args.planner.now c.note_left-in-Fragment.new.planner _ _ _ _ h.piece left t)) c.note_left-in-Fragment.ensures.joined,
    )

pub returns-in-Fragment-clause-keeps : goal.returns-in-Fragment-clause-keeps
returns-in-Fragment-clause-keeps c = hand_keeps c.args.movie.now c.args.walk.now (hands.Fragment c.in-Fragment.inner) (hands.Fragment c.note_left-in-Fragment.new.samples.inner) (places.Fragment c.place-in-Fragment.result) c.in-Fragment.ensures.movie c.requires.walk c.in-Fragment.ensures.hand
    (c.note_left-in-Fragment.ensures.later.0.0, c.note_left-in-Fragment.ensures.later.0.1, c.note_left-in-Fragment.ensures.later.0.2, c.note_left-in-Fragment.ensures.later.2) (c.place-in-Fragment.ensures.is, c.place-in-Fragment.ensures.place)
