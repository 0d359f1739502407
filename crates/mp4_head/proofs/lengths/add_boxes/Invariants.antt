use Rattle.std.proofs.Common.{length}
use Rattle.mp4_boxes.specs.format.Written.{box_bytes}
use Rattle.mp4_head.proofs.HeadLengths.{Counted}
use Rattle.mp4_head.proofs.lengths.add_boxes.Given as goal

abbrev pub invariant-loop-payload : goal.invariant-loop-payload
invariant-loop-payload l = Counted (λ p. length (box_bytes l.fn.kind.0 p.now)) l.initial.total l.payloads l.payload-index l.total
