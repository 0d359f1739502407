use Rattle.mp4_boxes.specs.format.Written.{box_bytes}
use Rattle.mp4_head.proofs.Pieces.{Put}
use Rattle.mp4_head.proofs.track_writing.put_boxes.Given as goal

abbrev pub invariant-loop-payload : goal.invariant-loop-payload
invariant-loop-payload l = Put (λ p. box_bytes l.fn.kind.0 p.now) l.initial.out.items l.payloads l.payload-index l.out.items
