use Rattle.std.proofs.Common.{refl}
use Rattle.mp4_content.proofs.PairsCompared.{both_take}
use Rattle.mp4_content.proofs.PairsPassed.{come_later, same_come, same_within}
use Rattle.mp4_present.proofs.WalkPlaces.{kept_on}
use Rattle.mp4_present.proofs.WayThrough.{hand_goes_on}
use Rattle.mp4_content.proofs.comparing.same_pairs.pass_now.Goals as goal

pub returns-clause-passed : goal.returns-clause-passed
returns-clause-passed g c =
    let by = c.args.by.now in
    let m = c.args.movies.now.left in
    let n = c.args.movies.now.right in
    let left = c.args.sides.now.left in
    let right = c.args.sides.now.right in
    let a = c.in_hand-x.result in
    let b = c.in_hand-y.result in
    let p = c.pass_in_hand-count in
    let e = p.ensures in
    let count = p.result in
    let within = same_within by left.window right.window count _ _ e.same in
    rw (c.keep.ensures.place, c.keep-2.ensures.place) (record {
      walk = kept_on m left.walk a p.new.left c.place.result c.requires.left c.in_hand-x.ensures.hand e.later c.place.ensures;
      walk_right = kept_on n right.walk b p.new.right c.place-2.result c.requires.right c.in_hand-y.ensures.hand e.right_later c.place-2.ensures;
      window = refl;
      window_right = refl;
      comes = λ file other tree other_tree t u xs ys h k. (
        come_later file tree t m left.walk a xs c.in_hand-x.ensures.hand h p.new.left c.place.result count e.later c.place.ensures e.left within.0,
        come_later other other_tree u n right.walk b ys c.in_hand-y.ensures.hand k p.new.right c.place-2.result count e.right_later c.place-2.ensures e.right within.1,
        same_come by left.window right.window file other tree other_tree t u m n left.walk right.walk a b count xs ys c.in_hand-x.ensures.hand c.in_hand-y.ensures.hand h k e.same,
      );
      takes = λ file other tree other_tree t u k l o q hx hy.
          both_take file tree t _ other other_tree u _ k l _ c.keep.new.steps.passed _
          (hand_goes_on file m tree t left.walk a p.new.left c.place.result k _ _ o c.in_hand-x.ensures.movie c.requires.left c.in_hand-x.ensures.hand e.later c.place.ensures c.keep.ensures.work hx)
          (hand_goes_on other n other_tree u right.walk b p.new.right c.place-2.result l _ _ q c.in_hand-y.ensures.movie c.requires.right c.in_hand-y.ensures.hand e.right_later c.place-2.ensures c.keep-2.ensures.work hy);
    })
