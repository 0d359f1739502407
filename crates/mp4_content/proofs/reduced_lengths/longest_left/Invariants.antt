use Rattle.std.proofs.Common.{◌≡◌, drop}
use Rattle.mp4_content.specs.words.LeftTimes.{check_tracks}
use Rattle.mp4_content.proofs.reduced_lengths.longest_left.Given as goal

-- what is said of all tracks is said of the others behind the longest of those so far
abbrev pub invariant-loop-k : goal.invariant-loop-k
invariant-loop-k l = check_tracks l.leaving l.timescale l.longest (drop l.k l.heads) (drop l.k l.owns) (drop l.k l.tracks) (drop l.k l.totals) ≡ check_tracks l.leaving l.timescale 0 l.heads l.owns l.tracks l.totals
