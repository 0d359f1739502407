use Rattle.std.proofs.Common.{[], ◌∷◌, refl, rules}
use Rattle.mp4_present.specs.words.InHand.{follows_itself, follows_on, left_in_hand}
use Rattle.mp4_present.proofs.WalkCopied.{kept_before}
use Rattle.mp4_present.proofs.WalkPlaces.{kept_on}
use Rattle.mp4_present.proofs.WayThrough.{hand_goes_on}
use Rattle.mp4_present.proofs.Folded.{all_handed, more_handed, no_first, none_handed, rest_stays, split_first}
use Rattle.mp4_present.proofs.walking.folding.fold_hand.Goals as goal
use Rattle.mp4_present.proofs.walking.folding.fold_hand.Goals.{in-Some+then-not-goes_on, in_default}

pub loop-sample-init : goal.loop-sample-init
loop-sample-init g c = record {
  first = c.in_hand-hand.result;
  is = c.in_hand-hand.ensures.hand;
  later = follows_itself c.in_hand-hand.result;
  added = none_handed g.F.Fold.takes c.args.into.now (left_in_hand c.in_hand-hand.result);
}

pub loop-sample-preserved : goal.loop-sample-preserved
loop-sample-preserved g c =
    let i = c.loop-sample.invariant in
    let s = c.in-Some.sample in
    record {
      first = i.first;
      is = i.is;
      later = follows_on _ _ _ i.later c.next.ensures.later;
      added = more_handed g.F.Fold.takes c.args.into.now c.loop-sample.into c.add.new.self (left_in_hand i.first) (left_in_hand c.loop-sample.hand) (s ∷ []) (left_in_hand c.next.new.self) i.added
          (split_first (left_in_hand c.loop-sample.hand) (left_in_hand c.next.new.self) s c.in-Some.ensures.given c.next.ensures.rest) (c.add.new.self, (c.add.ensures, refl));
    }

pub returns-clause-added : goal.returns-clause-added
returns-clause-added g c =
    let i = c.loop-sample.invariant in
    let takes = g.F.Fold.takes in
    let old = c.args.into.now in
    let all = left_in_hand i.first in
    let hand = left_in_hand c.loop-sample.hand in
    let rest = left_in_hand c.next.new.self in
    elim c.match-next.branch [
      | in-Some+then-not-goes_on w ↦ (
        i.first,
        i.is,
        rw w.into-is (rest_stays takes old w.add.new.self all rest
            (more_handed takes old c.loop-sample.into w.add.new.self all hand (w.in-Some.sample ∷ []) rest i.added (split_first hand rest w.in-Some.sample w.in-Some.ensures.given c.next.ensures.rest) (w.add.new.self, (w.add.ensures, refl)))
            (w.goes_on.ensures w.if-not-goes_on.true)),
      )
      | in_default w ↦ (i.first, i.is, rw w.into-is (all_handed takes old c.loop-sample.into all hand i.added (no_first hand w.in_default.ensures.given)))
    ]

pub returns-clause-walk : goal.returns-clause-walk
returns-clause-walk g c =
    let i = c.loop-sample.invariant in
    record {
      walk = rw c.keep.ensures.place (kept_on c.args.movie.now c.args.walk.now i.first _ c.place-place.result c.requires i.is (follows_on _ _ _ i.later c.next.ensures.later) c.place-place.ensures);
      next = search rules;
      left = search rules;
      stands = λ file tree t earlier later s. rw c.keep.ensures.place (kept_before file tree t earlier later c.args.walk.now c.place-place.result s);
    }

pub returns-clause-work : goal.returns-clause-work
returns-clause-work g c file tree t n o may =
    let i = c.loop-sample.invariant in
    rw c.keep.ensures.place (hand_goes_on file c.args.movie.now tree t c.args.walk.now i.first _ c.place-place.result n _ _ o c.in_hand-hand.ensures.movie c.requires i.is (follows_on _ _ _ i.later c.next.ensures.later) c.place-place.ensures c.keep.ensures.work may)
