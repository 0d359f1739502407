use Rattle.std.proofs.Common.{◌++◌}
use Rattle.mp4_content.specs.words.Differing.{values_differ, value_differs}
use Rattle.mp4_content.proofs.Differing.{Goes}
use Rattle.mp4_content.proofs.comparing.fields.compare_values.Given as goal

-- what differs of the values from here on is left
abbrev pub invariant-loop-k : goal.invariant-loop-k
invariant-loop-k l = Goes (λ x. x) (value_differs l.fn.subject) l.left l.right l.k l.found.items
    (l.fn.found.items ++ values_differ l.fn.subject l.left l.right)
