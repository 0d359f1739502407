use Rattle.std.proofs.Common.{rules, ◌∙◌, ◌++◌, ap}
use Rattle.mp4_boxes.specs.format.Written.{box_bytes}
use Rattle.mp4_head.proofs.Pieces.{put_none, put_more, put_all, seen_each}
use Rattle.mp4_head.proofs.track_writing.put_boxes.Goals as goal

pub loop-payload-init : goal.loop-payload-init
loop-payload-init c = put_none _ _ _

pub loop-payload-preserved : goal.loop-payload-preserved
loop-payload-preserved c =
    put_more (λ p. box_bytes c.args.kind.0 p.now) _ c.args.payloads.now c.loop-payload.payload-index _ c.loop-payload.out.items c.put_box.new.out.items c.loop-payload-test.true c.in_ok-put_box.ensures c.loop-payload.invariant

pub returns : goal.returns
returns c =
    put_all (λ p. box_bytes c.args.kind.0 p.now) _ c.args.payloads.now c.loop-payload.payload-index c.loop-payload.out.items (search rules) c.loop-payload.invariant
    ∙ ap (λ y. c.args.out.now.items ++ y) (seen_each (box_bytes c.args.kind.0) (λ p. p.now) c.args.payloads.now)
