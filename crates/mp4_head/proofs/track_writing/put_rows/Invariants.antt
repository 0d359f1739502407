use Rattle.mp4_head.specs.words.Seen.{edit_seen}
use Rattle.mp4_head.specs.format.Writing as written
use Rattle.mp4_head.proofs.Pieces.{Put}
use Rattle.mp4_head.proofs.track_writing.put_rows.Given as goal

abbrev pub invariant-loop-edit : goal.invariant-loop-edit
invariant-loop-edit l = Put (λ e. written.edit_bytes (edit_seen e)) l.initial.out.items l.edits l.edit-index l.out.items
