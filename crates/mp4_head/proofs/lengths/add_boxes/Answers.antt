use Rattle.std.proofs.Common.{rules, ◌∙◌, ◌+◌, ℕ, length, ap}
use Rattle.mp4_boxes.specs.format.Written.{box_bytes}
use Rattle.mp4_head.specs.words.Parts.{capped}
use Rattle.mp4_head.proofs.HeadLengths.{counted_none, counted_more, counted_all, length_each}
use Rattle.mp4_head.proofs.lengths.add_boxes.Goals as goal

pub loop-payload-init : goal.loop-payload-init
loop-payload-init c = counted_none _ _ _ (search rules)

pub loop-payload-preserved : goal.loop-payload-preserved
loop-payload-preserved c =
    counted_more (λ p. length (box_bytes c.args.kind.0 p.now)) _ c.args.payloads.now c.loop-payload.payload-index _ c.loop-payload.total c.add_box-total.result c.loop-payload-test.true c.add_box-total.ensures c.loop-payload.invariant

pub returns : goal.returns
returns c =
    counted_all (λ p. length (box_bytes c.args.kind.0 p.now)) _ c.args.payloads.now c.loop-payload.payload-index c.loop-payload.total (search rules) c.loop-payload.invariant
    ∙ ap (λ (n : ℕ). capped (c.args.before + n)) (length_each (box_bytes c.args.kind.0) (λ p. p.now) c.args.payloads.now)
