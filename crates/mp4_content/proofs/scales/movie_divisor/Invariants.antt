use Rattle.std.proofs.Common.{◌≡◌, drop, map}
use Rattle.std.specs.Prelude.{flat_map}
use Rattle.mp4_head.specs.format.Head.{TrackHead}
use Rattle.mp4_head.specs.words.Seen.{track_seen, tracks_seen}
use Rattle.mp4_content.specs.words.Scales.{divisor_from, edits_left, movie_times_left, segments_of}
use Rattle.mp4_content.proofs.scales.movie_divisor.Given as goal

-- with the others it is the divisor of all
abbrev pub invariant-loop-k : goal.invariant-loop-k
invariant-loop-k l = divisor_from l.divisor (flat_map (λ (t : TrackHead). segments_of (edits_left l.fn.leaving t.edits)) (map track_seen (drop l.k l.fn.head.tracks.items)))
    ≡ divisor_from 0 (movie_times_left l.fn.leaving l.fn.head.timescale (tracks_seen l.fn.head))
