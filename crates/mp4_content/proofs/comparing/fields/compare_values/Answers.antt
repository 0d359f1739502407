use Rattle.std.proofs.Common.{rules}
use Rattle.mp4_content.specs.words.Differing.{value_differs}
use Rattle.mp4_content.proofs.Differing.{one_ends, goes_whole}
use Rattle.mp4_content.proofs.comparing.fields.compare_values.Goals as goal

pub returns : goal.returns
returns c = goes_whole (λ x. x) (value_differs c.args.subject) c.args.left.now c.args.right.now c.loop-k.k _ _ (one_ends _ _ _ (search rules)) c.loop-k.invariant
