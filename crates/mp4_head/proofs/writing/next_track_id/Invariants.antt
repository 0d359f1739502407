use Rattle.std.specs.Prelude.{max}
use Rattle.mp4_head.specs.words.Seen.{track_seen}
use Rattle.mp4_head.proofs.Pieces.{Folded}
use Rattle.mp4_head.proofs.writing.next_track_id.Given as goal

abbrev pub invariant-loop-track : goal.invariant-loop-track
invariant-loop-track l = Folded (λ largest t. max largest (track_seen t).id) 0 l.tracks l.track-index l.largest
