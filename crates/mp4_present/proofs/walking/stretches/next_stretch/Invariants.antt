use Rattle.std.proofs.Common.{ℕ, ◌≡◌, ◌+◌, ◌-◌, ◌^◌, ◌<◌, ◌≤◌, take, drop, length}
use Rattle.std.specs.List.{AllByRecursion}
use Rattle.mp4_present.specs.words.Joined.{AreJoined, IsBelow}
use Rattle.mp4_present.proofs.walking.stretches.next_stretch.Given as goal

-- the first samples are taken, and their bytes joined
abbrev pub invariant-loop-stretch : goal.invariant-loop-stretch
invariant-loop-stretch g l =
    let rest = g.C.Samples.rest in
    record {
      some : 0 < l.stretch.samples;
      few : l.stretch.samples ≤ l.most;
      there : l.stretch.samples ≤ length (rest l.fn.samples);
      left : rest l.samples ≡ drop l.stretch.samples (rest l.fn.samples);
      joined : AreJoined (take l.stretch.samples (rest l.fn.samples)) l.stretch.at l.stretch.len;
      within : (n : ℕ) → AllByRecursion (IsBelow n) (rest l.fn.samples) → l.stretch.at + l.stretch.len ≤ n;
      short : l.stretch.len < 2 ^ 33;
      later : g.C.Samples.follows l.fn.samples l.samples;
    }

abbrev pub decreases-loop-stretch : goal.decreases-loop-stretch
decreases-loop-stretch g l = l.most - l.stretch.samples
