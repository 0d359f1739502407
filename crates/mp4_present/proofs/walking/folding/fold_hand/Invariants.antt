use Rattle.std.proofs.Common.{length}
use Rattle.mp4_present.specs.words.InHand.{Follows, left_in_hand}
use Rattle.mp4_present.specs.words.Movies.{InHandOf}
use Rattle.mp4_present.specs.declared.walking.in_hand.InHand.{InHand}
use Rattle.mp4_present.proofs.Folded.{Handed}
use Rattle.mp4_present.proofs.walking.folding.fold_hand.Given as goal

-- the samples in hand are those of the walk, later, and those before were added
abbrev pub invariant-loop-sample : goal.invariant-loop-sample
invariant-loop-sample g l = record {
  first : InHand;
  is : InHandOf l.movie l.fn.walk first;
  later : Follows first l.hand;
  added : Handed g.F.Fold.takes l.fn.into l.into (left_in_hand first) (left_in_hand l.hand);
}

abbrev pub decreases-loop-sample : goal.decreases-loop-sample
decreases-loop-sample g l = length (left_in_hand l.hand)
