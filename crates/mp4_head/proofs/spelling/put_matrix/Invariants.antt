use Rattle.byteorder.specs.Endian.{big_bytes}
use Rattle.mp4_boxes.specs.format.Bytes.{unsigned}
use Rattle.mp4_head.proofs.Pieces.{Put}
use Rattle.mp4_head.proofs.spelling.put_matrix.Given as goal

abbrev pub invariant-loop-number : goal.invariant-loop-number
invariant-loop-number l = Put (λ z. big_bytes 4 (unsigned 4 z)) l.initial.out.items l.matrix l.number-index l.out.items
