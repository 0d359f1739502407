use Rattle.std.proofs.Common.{length}
use Rattle.mp4norm.proofs.shell.attributes.value_of.Given as goal

abbrev pub decreases-loop-own : goal.decreases-loop-own
decreases-loop-own l = length l.left
