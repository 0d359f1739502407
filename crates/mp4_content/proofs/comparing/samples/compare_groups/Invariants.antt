use Rattle.std.proofs.Common.{◌≡◌, ◌++◌, drop}
use Rattle.mp4_content.specs.words.Differing.{group_differences}
use Rattle.mp4_content.proofs.comparing.samples.compare_groups.Given as goal

-- what differs at the keys from here on is left
abbrev pub invariant-loop-k : goal.invariant-loop-k
invariant-loop-k l = l.found.items ++ group_differences l.fn.of (drop l.k l.by.keys.items) l.by.left l.left l.by.right l.right
    ≡ l.fn.found.items ++ group_differences l.fn.of l.by.keys.items l.by.left l.left l.by.right l.right
