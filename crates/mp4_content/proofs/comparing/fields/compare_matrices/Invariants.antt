use Rattle.std.proofs.Common.{◌++◌}
use Rattle.mp4_content.specs.format.Differences.{signed, matrix_differences}
use Rattle.mp4_content.specs.declared.comparing.differences.Field.TheVariants as fields
use Rattle.mp4_content.proofs.Differing.{Goes}
use Rattle.mp4_content.proofs.comparing.fields.compare_matrices.Given as goal

-- what differs of the numbers from here on is left
abbrev pub invariant-loop-k : goal.invariant-loop-k
invariant-loop-k l = Goes (λ x. x) (λ n x y. signed l.fn.subject (fields.Matrix n) x y) l.left l.right l.k l.found.items
    (l.fn.found.items ++ matrix_differences l.fn.subject l.left l.right)
