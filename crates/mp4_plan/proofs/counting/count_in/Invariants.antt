use Rattle.std.proofs.Common.{◌-◌, ◌≤◌}
use Rattle.mp4_plan.specs.words.Counting.{CountsFirst}
use Rattle.mp4_plan.specs.words.Ends.{goes_in}
use Rattle.mp4_plan.proofs.counting.count_in.Given as goal

-- so many passed
abbrev pub invariant-loop-count : goal.invariant-loop-count
invariant-loop-count g l = record {
  counts : CountsFirst (goes_in l.end l.description) l.count (g.S.Samples.rest l.fn.samples) (g.S.Samples.rest l.samples);
  few : l.count ≤ l.most;
  later : g.S.Samples.follows l.fn.samples l.samples;
}

abbrev pub decreases-loop-count : goal.decreases-loop-count
decreases-loop-count g l = l.most - l.count
