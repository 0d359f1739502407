use Rattle.std.proofs.Common.{rules}
use Rattle.mp4_present.proofs.WalkPlaces.{kept_on}
use Rattle.mp4_present.proofs.NextSample.{takes_one}
use Rattle.mp4_present.proofs.WayThrough.{hand_goes_on}
use Rattle.mp4_present.proofs.walking.Walk.take_in_hand.Goals as goal

pub returns-clause-walk : goal.returns-clause-walk
returns-clause-walk g c =
    rw c.keep.ensures.place (kept_on c.args.movie.now c.args.self.now c.in_hand-hand.result _ c.place.result (search rules) c.in_hand-hand.ensures.hand c.next-sample.ensures.later c.place.ensures)

pub returns-clause-takes : goal.returns-clause-takes
returns-clause-takes g c file tree t samples comes =
    rw c.keep.ensures.place (takes_one file tree t c.args.movie.now c.args.self.now c.in_hand-hand.result _ c.place.result c.next-sample.result samples c.in_hand-hand.ensures.hand c.next-sample.ensures.later c.place.ensures c.next-sample.ensures.given c.next-sample.ensures.rest comes)

pub returns-clause-work : goal.returns-clause-work
returns-clause-work g c file tree t n o may =
    rw c.keep.ensures.place (hand_goes_on file c.args.movie.now tree t c.args.self.now c.in_hand-hand.result _ c.place.result n c.args.steps.now.passed c.keep.new.steps.passed o
    c.in_hand-hand.ensures.movie c.requires c.in_hand-hand.ensures.hand c.next-sample.ensures.later c.place.ensures c.keep.ensures.work may)
