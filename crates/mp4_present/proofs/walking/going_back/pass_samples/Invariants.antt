use Rattle.std.proofs.Common.{◌≡◌, ◌-◌, ◌≤◌, drop, length}
use Rattle.mp4_present.proofs.walking.going_back.pass_samples.Given as goal

-- so many were taken
abbrev pub invariant-loop-passed : goal.invariant-loop-passed
invariant-loop-passed g l =
    let rest = g.C.Samples.rest in
    record {
      within : l.passed ≤ l.count;
      left : rest l.samples ≡ drop l.passed (rest l.fn.samples);
      few : l.passed ≤ length (rest l.fn.samples);
      later : g.C.Samples.follows l.fn.samples l.samples;
    }

abbrev pub decreases-loop-passed : goal.decreases-loop-passed
decreases-loop-passed g l = l.count - l.passed
