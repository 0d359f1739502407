use Rattle.mp4_head.specs.words.Seen.{kept_seen}
use Rattle.mp4_head.specs.format.Writing as written
use Rattle.mp4_head.proofs.Pieces.{Put}
use Rattle.mp4_head.proofs.writing.put_kept.Given as goal

abbrev pub invariant-loop-one : goal.invariant-loop-one
invariant-loop-one l = Put (λ k. written.kept_bytes (kept_seen k)) l.initial.out.items l.kept l.one-index l.out.items
