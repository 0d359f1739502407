use Rattle.mp4_content.proofs.DelaysFound.{later_found, turned, turned_less}
use Rattle.mp4_content.proofs.delays.later_by.Goals as goal

pub returns : goal.returns
returns c =
    let x = c.args.first in
    let y = c.args.second in
    let s = c.args.timescale in
    let after = c.side-after.ensures in
    let before = c.side-before.ensures in
    let d = c.side-before.result.whole in
    let g = c.side-before.result.parts in
    let found = later_found s x y c.requires.movie c.requires.first.timescale c.requires.second.timescale c.product-all.result
    c.side-after.result.whole c.side-after.result.parts d g c.product-all.ensures.is after.is
    (turned s x.timescale y.timescale y.waits y.later x.earlier d g before.is) after.parts (turned_less s x.timescale y.timescale g before.parts) in
    rw (c.min.ensures, c.from.ensures, c.saturating_sub-whole.ensures, c.min-more.ensures, c.min-fewer.ensures, c.saturating_sub.ensures, c.saturating_sub-2.ensures) found
