use Rattle.std.proofs.Common.{◌≡◌, ◌-◌, ◌≤◌, drop}
use Rattle.mp4_content.specs.words.SamePairs.{BeginSame}
use Rattle.mp4_content.proofs.comparing.same_pairs.pass_pairs.Given as goal

-- so many were passed on both sides
abbrev pub invariant-loop-passed : goal.invariant-loop-passed
invariant-loop-passed g l = record {
  most : l.passed ≤ l.most;
  same : BeginSame l.by l.left_window l.right_window l.passed (g.C.Samples.rest l.fn.left) (g.D.Samples.rest l.fn.right);
  left : g.C.Samples.rest l.left ≡ drop l.passed (g.C.Samples.rest l.fn.left);
  right : g.D.Samples.rest l.right ≡ drop l.passed (g.D.Samples.rest l.fn.right);
  later : g.C.Samples.follows l.fn.left l.left;
  right_later : g.D.Samples.follows l.fn.right l.right;
}

abbrev pub decreases-loop-passed : goal.decreases-loop-passed
decreases-loop-passed g l = l.most - l.passed
