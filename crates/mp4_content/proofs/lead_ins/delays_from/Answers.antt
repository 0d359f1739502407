use Rattle.std.proofs.Common.{◌∙◌, ap, map}
use Rattle.mp4_boxes.proofs.Plain.{take_everything}
use Rattle.mp4_content.specs.words.Delays.{later_than}
use Rattle.mp4_content.proofs.FirstBeginnings.{stands_at}
use Rattle.mp4_content.proofs.TrackDivisors.{mapped_more}
use Rattle.mp4_content.proofs.lead_ins.delays_from.Goals as goal

pub loop-k-preserved : goal.loop-k-preserved
loop-k-preserved c =
    let s = c.args.timescale in
    let bs = c.args.beginnings.now in
    let k = c.loop-k.k in
    rw c.in_ok-push.ensures.items (mapped_more (later_than s c.args.first) bs k _ c.loop-k.delays.items _ c.loop-k.invariant (stands_at bs k _ c.loop-k-test.true) c.delay_from.ensures)

pub returns : goal.returns
returns c =
    c.loop-k.invariant ∙ ap (map (later_than c.args.timescale c.args.first)) (take_everything c.args.beginnings.now c.loop-k.k c.loop-k-test.false)
