use Rattle.std.proofs.Common.{length}
use Rattle.mp4norm.proofs.shell.drop_lists.names_of.Given as goal

abbrev pub decreases-loop-name : goal.decreases-loop-name
decreases-loop-name l = length l.left
