use Rattle.mp4_content.proofs.DelaysFound.{before_found, turned}
use Rattle.mp4_content.proofs.delays.begins_before.Goals as goal

pub returns : goal.returns
returns c =
    let x = c.args.second in
    let y = c.args.first in
    let s = c.args.timescale in
    let d = c.side-before.result.whole in
    let g = c.side-before.result.parts in
    rw c.is_less.ensures
    (before_found s x y c.requires.movie c.requires.second.timescale c.requires.first.timescale c.product-all.result
    c.side-after.result.whole c.side-after.result.parts d g c.product-all.ensures.is c.side-after.ensures.is
    (turned s x.timescale y.timescale y.waits y.later x.earlier d g c.side-before.ensures.is))
