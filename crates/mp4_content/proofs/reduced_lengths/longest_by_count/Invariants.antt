use Rattle.std.proofs.Common.{◌≡◌, drop}
use Rattle.mp4_content.specs.words.LeftTimes.{longest_count}
use Rattle.mp4_content.proofs.reduced_lengths.longest_by_count.Given as goal

-- the longest of all is the longest of those so far and of the others
abbrev pub invariant-loop-k : goal.invariant-loop-k
invariant-loop-k l = longest_count l.longest (drop l.k l.heads) (drop l.k l.tracks) ≡ longest_count 0 l.heads l.tracks
