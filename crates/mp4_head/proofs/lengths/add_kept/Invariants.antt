use Rattle.std.proofs.Common.{length}
use Rattle.mp4_head.specs.words.Seen.{kept_seen}
use Rattle.mp4_head.specs.format.Writing.{kept_bytes}
use Rattle.mp4_head.proofs.HeadLengths.{Counted}
use Rattle.mp4_head.proofs.lengths.add_kept.Given as goal

abbrev pub invariant-loop-one : goal.invariant-loop-one
invariant-loop-one l = Counted (λ x. length (kept_bytes (kept_seen x))) l.initial.total l.kept l.one-index l.total
