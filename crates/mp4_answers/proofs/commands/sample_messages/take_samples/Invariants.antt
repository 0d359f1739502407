use Rattle.std.proofs.Common.{◌≡◌, ◌-◌, ◌≤◌, ◌++◌, length, take}
use Rattle.mp4_answers.proofs.commands.sample_messages.take_samples.Given as goal

-- the first samples are those that came, and the others are still to come
abbrev pub invariant-loop-count : goal.invariant-loop-count
invariant-loop-count g l = record {
  within : l.count ≤ 64;
  room : length l.samples ≡ 64;
  taken : g.H.Samples.rest l.fn.hand ≡ take l.count l.samples ++ g.H.Samples.rest l.hand;
  later : g.H.Samples.follows l.fn.hand l.hand;
}

abbrev pub decreases-loop-count : goal.decreases-loop-count
decreases-loop-count g l = 64 - l.count
