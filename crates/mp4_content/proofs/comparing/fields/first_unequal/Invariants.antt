use Rattle.std.proofs.Common.{◌≡◌, drop}
use Rattle.mp4_content.specs.format.Differences.{first_unequal}
use Rattle.mp4_content.proofs.comparing.fields.first_unequal.Given as goal

-- no byte before this place differs
abbrev pub invariant-loop-place : goal.invariant-loop-place
invariant-loop-place l = first_unequal l.place (drop l.place l.left) (drop l.place l.right) ≡ first_unequal 0 l.left l.right
