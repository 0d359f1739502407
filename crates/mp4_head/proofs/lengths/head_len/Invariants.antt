use Rattle.std.proofs.Common.{◌+◌, length}
use Rattle.mp4_head.specs.words.Seen.{track_seen}
use Rattle.mp4_head.specs.format.Writing.{trak_bytes, trex_bytes}
use Rattle.mp4_head.proofs.HeadLengths.{Counted}
use Rattle.mp4_head.proofs.lengths.head_len.Given as goal

abbrev pub invariant-loop-track : goal.invariant-loop-track
invariant-loop-track l = Counted (λ t. length (trak_bytes (track_seen t)) + length (trex_bytes (track_seen t))) l.initial.total l.track-items l.track-index l.total
