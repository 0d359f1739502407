use Rattle.std.proofs.Common.{rules}
use Rattle.mp4_head.proofs.HeadLengths.{length_any}
use Rattle.mp4_head.proofs.lengths.add_box.Goals as goal

pub returns : goal.returns
returns c = let l = length_any c.args.kind.0 c.args.payload.now in search rules
