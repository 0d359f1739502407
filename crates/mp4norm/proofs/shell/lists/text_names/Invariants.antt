use Rattle.std.proofs.Common.{◌≡◌, ◌++◌, length}
use Rattle.mp4norm.specs.format.Lists.{AreTaken, bytes_of, names_of}
use Rattle.mp4norm.proofs.shell.lists.text_names.Given as goal

abbrev pub invariant-loop-left : goal.invariant-loop-left
invariant-loop-left l = (names_of l.fn.list ≡ bytes_of l.names.items ++ names_of l.left)
    × AreTaken l.most 0 (bytes_of l.names.items)

abbrev pub decreases-loop-left : goal.decreases-loop-left
decreases-loop-left l = length l.left
