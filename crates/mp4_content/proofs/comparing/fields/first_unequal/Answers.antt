use Rattle.std.proofs.Common.{rules}
use Rattle.mp4_content.proofs.Differing.{nowhere_same}
use Rattle.mp4_content.proofs.comparing.fields.first_unequal.Goals as goal

pub returns-then-eq-clause-found : goal.returns-then-eq-clause-found
returns-then-eq-clause-found c = nowhere_same 0 c.args.left.now c.args.right.now (search rules)
