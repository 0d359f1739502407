use Rattle.std.proofs.Common.{rules, refl, arith}
use Rattle.mp4_content.proofs.PairsPassed.{one_same}
use Rattle.mp4_present.proofs.PassedOn.{one_passed}
use Rattle.mp4_content.proofs.comparing.same_pairs.pass_pairs.Goals as goal

pub loop-passed-init : goal.loop-passed-init
loop-passed-init g c = record {
  most = omega arith;
  same = tt;
  left = refl;
  right = refl;
  later = g.met.C.Samples.follows_itself _;
  right_later = g.met.D.Samples.follows_itself _;
}

pub loop-passed-preserved : goal.loop-passed-preserved
loop-passed-preserved g c =
    let i = c.loop-passed.invariant in
    let n = c.loop-passed.passed in
    let xs = g.C.Samples.rest c.args.left.now in
    let ys = g.D.Samples.rest c.args.right.now in
    let x = rw c.in-Some.is at c.peek.ensures in
    let y = rw c.in-Some-peek.is at c.peek-in-loop-passed.ensures in
    let first = one_passed n xs _ _ c.in-Some.x i.left x c.pass.ensures.rest in
    let second = one_passed n ys _ _ c.in-Some-peek.y i.right y c.pass-in-loop-passed.ensures.rest in
    record {
      most = search rules;
      same = one_same c.args.by.now c.args.left_window.now c.args.right_window.now n xs ys _ _ c.in-Some.x c.in-Some-peek.y i.same i.left i.right x y (c.if-not-are_same.ensures refl);
      left = first.0;
      right = second.0;
      later = g.met.C.Samples.follows_on _ _ _ i.later c.pass.ensures.later;
      right_later = g.met.D.Samples.follows_on _ _ _ i.right_later c.pass-in-loop-passed.ensures.later;
    }
