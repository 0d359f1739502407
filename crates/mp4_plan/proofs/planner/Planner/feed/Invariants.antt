use Rattle.std.proofs.Common.{◌≡◌, ◌+◌, ◌^◌, ◌<◌, length}
use Rattle.mp4_plan.specs.words.Gathering.{count_of, piece_fed, samples_after}
use Rattle.mp4_plan.proofs.planner.Planner.feed.Given as goal

-- what is fed in the end, and what is left then, is settled from the start
abbrev pub invariant-loop-sample : goal.invariant-loop-sample
invariant-loop-sample g l =
    let rest = g.S.Samples.rest in
    record {
      room : count_of l.self.gathered + length (rest l.samples) < 2 ^ 32;
      piece : piece_fed l.self (rest l.samples) ≡ piece_fed l.fn.self (rest l.fn.samples);
      left : samples_after l.self (rest l.samples) ≡ samples_after l.fn.self (rest l.fn.samples);
      count : count_of l.self.gathered + length (rest l.samples) ≡ count_of l.fn.self.gathered + length (rest l.fn.samples);
      later : g.S.Samples.follows l.fn.samples l.samples;
    }

abbrev pub decreases-loop-sample : goal.decreases-loop-sample
decreases-loop-sample g l = length (g.S.Samples.rest l.samples)
