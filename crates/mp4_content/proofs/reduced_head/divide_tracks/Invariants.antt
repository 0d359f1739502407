use Rattle.std.proofs.Common.{◌≡◌, length}
use Rattle.mp4_head.specs.words.Seen.{track_seen}
use Rattle.mp4_present.specs.words.HeadsRead.{places_of}
use Rattle.mp4_content.specs.words.Divided.{divided_head, divisor_at}
use Rattle.mp4_present.proofs.Changed.{ChangedTo}
use Rattle.mp4_content.proofs.reduced_head.divide_tracks.Given as goal

-- those before this one are divided, the others are as they were, and all stand where they stood
abbrev pub invariant-loop-k : goal.invariant-loop-k
invariant-loop-k l = (length l.tracks.items ≡ length l.initial.tracks.items) × ChangedTo track_seen (λ n. divided_head l.leaving l.scales.movie (divisor_at l.scales.tracks.items n)) 0 l.initial.tracks.items l.tracks.items l.k
    × (places_of l.tracks.items ≡ places_of l.initial.tracks.items)
