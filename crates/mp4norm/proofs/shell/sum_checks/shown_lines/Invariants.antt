use Rattle.std.proofs.Common.{length}
use Rattle.mp4norm.proofs.shell.sum_checks.shown_lines.Given as goal

abbrev pub decreases-loop-left : goal.decreases-loop-left
decreases-loop-left l = length l.left
