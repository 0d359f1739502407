use Rattle.std.proofs.Common.{refl}
use Rattle.mp4_content.proofs.PairsPassed.{same_pair}
use Rattle.mp4_content.proofs.comparing.same_pairs.are_same.Goals as goal

pub returns : goal.returns
returns c same =
    same_pair c.args.by.now c.args.left_window.now c.args.right_window.now c.args.left.now c.args.right.now (c.if-not-say_the_same.ensures refl) (c.shows_same.ensures same)
