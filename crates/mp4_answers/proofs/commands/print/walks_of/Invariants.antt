use Rattle.std.proofs.Common.{◌≤◌, length}
use Rattle.mp4_answers.specs.words.PrintedTracks.{AreWalks}
use Rattle.mp4_answers.proofs.commands.print.walks_of.Given as goal

-- those so far are walks of the last tracks
abbrev pub invariant-loop-left : goal.invariant-loop-left
invariant-loop-left l = (l.left ≤ length l.movie.tracks) × AreWalks l.movie l.left l.walks.items

abbrev pub decreases-loop-left : goal.decreases-loop-left
decreases-loop-left l = l.left
