use Rattle.std.proofs.Common.{◌≡◌, map, take}
use Rattle.mp4_present.specs.words.Waits.{end_of}
use Rattle.mp4_present.proofs.waiting.ends_of.Given as goal

-- the ends of those before this one
abbrev pub invariant-loop-k : goal.invariant-loop-k
invariant-loop-k l = l.ends.items ≡ map end_of (take l.k l.tracks)
