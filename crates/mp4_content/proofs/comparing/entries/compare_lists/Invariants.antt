use Rattle.std.proofs.Common.{◌++◌}
use Rattle.mp4_content.specs.format.Differences.{list_differences}
use Rattle.mp4_content.specs.words.Differing.{at_number}
use Rattle.mp4_content.proofs.Differing.{Goes}
use Rattle.mp4_content.proofs.comparing.entries.compare_lists.Given as goal

-- what differs of the entries from here on is left
abbrev pub invariant-loop-k : goal.invariant-loop-k
invariant-loop-k g l =
    let one = at_number g.E.Entry.differences l.fn.subject l.fn.list in
    Goes (λ x. x) one l.left l.right l.k l.found.items
    (l.fn.found.items ++ list_differences l.fn.subject l.fn.list one l.left l.right)
