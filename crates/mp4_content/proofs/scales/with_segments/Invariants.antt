use Rattle.std.proofs.Common.{◌≡◌, drop, map}
use Rattle.mp4_head.specs.words.Seen.{edit_seen}
use Rattle.mp4_content.specs.words.Scales.{divisor_from, segments_of}
use Rattle.mp4_content.proofs.scales.with_segments.Given as goal

-- with the others it is the divisor of all
abbrev pub invariant-loop-k : goal.invariant-loop-k
invariant-loop-k l = divisor_from l.divisor (segments_of (map edit_seen (drop l.k l.edits))) ≡ divisor_from l.fn.found (segments_of (map edit_seen l.edits))
