use Rattle.std.proofs.Common.{◌+◌, List, Option, take, subst, sym}
use Rattle.mp4_boxes.proofs.Plain.{take_everything}
use Rattle.mp4_content.specs.declared.delays.Beginning.{Beginning}
use Rattle.mp4_content.proofs.FirstBeginnings.{IsEarliest, earliest_next, is_first}
use Rattle.mp4_content.proofs.lead_ins.first_of.Goals as goal

pub loop-k-preserved : goal.loop-k-preserved
loop-k-preserved c =
    let s = c.args.timescale in
    let bs = c.args.beginnings.now in
    let k = c.loop-k.k in
    subst (IsEarliest s (take (k + 1) bs)) (sym c.earlier_of-first.ensures) (earliest_next s bs k c.loop-k.first _ c.requires.movie c.loop-k-test.true c.requires.can c.loop-k.invariant)

pub returns : goal.returns
returns c =
    let s = c.args.timescale in
    let bs = c.args.beginnings.now in
    let all = subst (λ (xs : List (Option Beginning)). IsEarliest s xs c.loop-k.first) (take_everything bs c.loop-k.k c.loop-k-test.false) c.loop-k.invariant in
    is_first s bs c.loop-k.first c.requires.movie c.requires.can all
