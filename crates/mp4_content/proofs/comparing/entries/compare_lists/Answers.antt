use Rattle.std.proofs.Common.{rules}
use Rattle.mp4_content.specs.words.Differing.{at_number}
use Rattle.mp4_content.proofs.Differing.{one_ends, goes_whole}
use Rattle.mp4_content.proofs.comparing.entries.compare_lists.Goals as goal

pub returns : goal.returns
returns g c = goes_whole (λ x. x) (at_number g.E.Entry.differences c.args.subject c.args.list) c.args.left.now c.args.right.now c.loop-k.k _ _ (one_ends _ _ _ (search rules)) c.loop-k.invariant
