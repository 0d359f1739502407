use Rattle.mp4_head.specs.words.Seen.{track_seen}
use Rattle.mp4_head.specs.format.Writing as written
use Rattle.mp4_head.proofs.Pieces.{Put}
use Rattle.mp4_head.proofs.writing.put_tracks.Given as goal

abbrev pub invariant-loop-track : goal.invariant-loop-track
invariant-loop-track l = Put (λ t. written.trak_bytes (track_seen t)) l.initial.out.items l.tracks l.track-index l.out.items
